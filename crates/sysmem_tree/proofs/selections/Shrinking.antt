-- A choice adds no nodes, and a group's children are some of those that are left.
use Rattle.std.proofs.Common.{◌≡◌, ◌≤◌, ℕ, suc, ◌+◌, List, [], ◌∷◌, Option, Some, None, length, slice_get, refl, ◌∙◌, ap, arith}
use Rattle.std.specs.Prelude.{option_map, option_and_then}
use Rattle.std.proofs.lemmas.List.{length-map}
use Rattle.std.proofs.lemmas.Option.{same_Some, option_and_then_some}
use Rattle.std.specs.List.{AllByRecursion}
use Rattle.sysmem_tree.specs.Forest.{Forest, Empty, Plain, Group, each, kids_else_rest, choices, first_group}
use Rattle.sysmem_tree.specs.Layout.{size}
use Rattle.sysmem_tree.specs.Node.{NodeFacts}
use Rattle.sysmem_tree.specs.Nodes.{IsTree}
use Rattle.sysmem_tree.specs.Selection.{after}
use Rattle.sysmem_tree.specs.Shape.{by_number, forest_of}
use Rattle.sysmem_tree.proofs.selections.Chosen.{chosen}
use Rattle.sysmem_tree.proofs.selections.ChoiceLaws.{size_by}
use Rattle.sysmem_tree.proofs.selections.Selections.{IfAny, all_mapped, all_at, first_many}

module _ {A : Type 0} where
  abbrev IsSmall : ℕ → Forest A → Type 0
  IsSmall many e = size e ≤ many

  each_small : (many : ℕ) (d : Forest A) → size d ≤ many → AllByRecursion (IsSmall many) (each d)
  each_small many Empty less = tt
  each_small many (Plain n kids rest) less = (omega (arith, less), each_small many rest (omega (arith, less)))
  each_small many (Group n kids rest) less = (omega (arith, less), each_small many rest (omega (arith, less)))

  small_in : (n : A) (kids rest : Forest A) (ks rs : Option (List (Forest A))) → IfAny (Unit {0}) (AllByRecursion (IsSmall (size kids))) ks → IfAny (Unit {0}) (AllByRecursion (IsSmall (size rest))) rs
      → IfAny (Unit {0}) (AllByRecursion (IsSmall (suc (size kids + size rest)))) (kids_else_rest (λ k. Plain n k rest) (λ r. Plain n kids r) ks rs)
  small_in n kids rest (Some ks) rs hk hr =
      all_mapped (IsSmall (size kids)) (IsSmall (suc (size kids + size rest))) (λ k. Plain n k rest) ks (λ k p. omega (arith, p)) hk
  small_in n kids rest None (Some rs) hk hr =
      all_mapped (IsSmall (size rest)) (IsSmall (suc (size kids + size rest))) (λ r. Plain n kids r) rs (λ r p. omega (arith, p)) hr
  small_in n kids rest None None hk hr = tt

  -- a choice adds no nodes
  all_small : (d : Forest A) → IfAny (Unit {0}) (AllByRecursion (IsSmall (size d))) (choices d)
  all_small Empty = tt
  all_small (Plain n kids rest) = small_in n kids rest (choices kids) (choices rest) (all_small kids) (all_small rest)
  all_small (Group n kids rest) =
      all_mapped (IsSmall (size kids)) (IsSmall (suc (size kids + size rest))) (λ kid. Plain n kid rest) (each kids) (λ kid p. omega (arith, p)) (each_small (size kids) kids (omega arith))

  one_small : (d e : Forest A) (c : ℕ) → chosen d c ≡ Some e → size e ≤ size d
  one_small d e c is = by (choices d) (all_small d) is where
    by : (o : Option (List (Forest A))) → IfAny (Unit {0}) (AllByRecursion (IsSmall (size d))) o → option_and_then (λ es. slice_get es c) o ≡ Some e → size e ≤ size d
    by None all is' = absurd (cc)
    by (Some es) all is' = all_at (IsSmall (size d)) es c e is' all

  small_after : (cs : List ℕ) (d e : Forest A) → after d cs ≡ Some e → size e ≤ size d
  small_after [] d e is = let same : size d ≡ size e = ap size (same_Some d e is) in omega (arith, same)
  small_after (c ∷ cs) d e is = option_and_then_some (λ x. after x cs) (chosen d c) e is
      (λ x one on. let a = small_after cs x e on in let b = one_small d x c one in omega (arith, a, b))

  each_few : (d : Forest A) → length (each d) ≤ size d
  each_few Empty = omega arith
  each_few (Plain n kids rest) = let h = each_few rest in omega (arith, h)
  each_few (Group n kids rest) = let h = each_few rest in omega (arith, h)

  few_in : (n : A) (kids rest : Forest A) (ks rs : Option (List (Forest A))) → IfAny (Unit {0}) (λ es. length es ≤ size kids) ks → IfAny (Unit {0}) (λ es. length es ≤ size rest) rs
      → IfAny (Unit {0}) (λ es. length es ≤ suc (size kids + size rest)) (kids_else_rest (λ k. Plain n k rest) (λ r. Plain n kids r) ks rs)
  few_in n kids rest (Some ks) rs hk hr = let l = length-map ks (λ k. Plain n k rest) in omega (arith, l, hk)
  few_in n kids rest None (Some rs) hk hr = let l = length-map rs (λ r. Plain n kids r) in omega (arith, l, hr)
  few_in n kids rest None None hk hr = tt

  -- there are no more choices than nodes
  few_open : (d : Forest A) → IfAny (Unit {0}) (λ es. length es ≤ size d) (choices d)
  few_open Empty = tt
  few_open (Plain n kids rest) = few_in n kids rest (choices kids) (choices rest) (few_open kids) (few_open rest)
  few_open (Group n kids rest) =
      let l = length-map (each kids) (λ kid. Plain n kid rest) in
      let h = each_few kids in omega (arith, l, h)

pub few_children : (nodes : List NodeFacts) (r : ℕ) (cs : List ℕ) (e : Forest ℕ) (group children : ℕ) → IsTree nodes → after (forest_of by_number nodes r []) cs ≡ Some e
    → first_group e ≡ Some (group, children) → children ≤ 128
few_children nodes r cs e group children tree is next = by (choices e) (few_open e) (first_many e ∙ ap (option_map (λ (g : ℕ × ℕ). g.1)) next) where
  by : (o : Option (List (Forest ℕ))) → IfAny (Unit {0}) (λ es. length es ≤ size e) o → option_map length o ≡ Some children → children ≤ 128
  by None h long = absurd (cc)
  by (Some es) h long =
      let a = small_after cs (forest_of by_number nodes r []) e is in
      let b = size_by nodes r tree (slice_get nodes r) refl in
      let same : length es ≡ children = same_Some (length es) children long in omega (arith, a, b, h, same)
