-- Choices: which there are, how many, and what they leave under several labels.
use Rattle.std.proofs.Common.{◌≡◌, ◌↔◌, ◌≤◌, ◌<◌, ℕ, suc, ◌+◌, ◌++◌, List, [], ◌∷◌, Option, Some, None, length, drop, slice_get, refl, sym, ◌∙◌, ap, subst, arith}
use Rattle.std.specs.Prelude.{Contains, IsSome, IfSome, map, option_map, option_and_then}
use Rattle.std.specs.Option.{option_or}
use Rattle.std.proofs.lemmas.List.{length-drop}
use Rattle.std.proofs.lemmas.Option.{same_Some, none-some, slice_get_within, get_or_from_slice_get, option_and_then_some}
use Rattle.std.specs.List.{AllByRecursion}
use Rattle.sysmem_tree.specs.declared.layout.Layout.{Layout}
use Rattle.sysmem_tree.specs.Forest.{Forest, Empty, Plain, Group, each, kids_else_rest, choices, settled, relabel, first_group}
use Rattle.sysmem_tree.specs.Layout.{Spot, size, first_place}
use Rattle.sysmem_tree.specs.LayoutLaws.{AreWholeWithout, number, member, LeaveOneForest}
use Rattle.sysmem_tree.specs.Laws.{by_both}
use Rattle.sysmem_tree.specs.Node.{NodeFacts}
use Rattle.sysmem_tree.specs.Nodes.{IsTree}
use Rattle.sysmem_tree.specs.OpenGroups.{node_of, IsFirstOpen}
use Rattle.sysmem_tree.specs.Path.{path_of}
use Rattle.sysmem_tree.specs.Prefix.{Alternatives, next_alternatives}
use Rattle.sysmem_tree.specs.Selection.{after, IsPrefix}
use Rattle.sysmem_tree.specs.Shape.{by_number, forest_of, rooted}
use Rattle.sysmem_tree.proofs.CallerLemmas.{prefix_push}
use Rattle.sysmem_tree.proofs.selections.Chosen.{chosen}
use Rattle.sysmem_tree.proofs.forests.Few.{few_numbers, forest_here}
use Rattle.sysmem_tree.proofs.layouts.GroupWalks.{counted_kids, first_of}
use Rattle.sysmem_tree.proofs.forests.Labelled.{one_forest}
use Rattle.sysmem_tree.proofs.layouts.Layouts.{size_tree}
use Rattle.sysmem_tree.proofs.forests.Numbers.{numbers}
use Rattle.sysmem_tree.proofs.nodes.Places.{in_front}
use Rattle.sysmem_tree.proofs.selections.Selections.{IfAny, all_mapped, all_at, after_more, after_relabel, first_many, settled_relabel, choices_relabel}
use Rattle.sysmem_tree.proofs.layouts.Walks.{no_first, first_is}

none_of_map : {X Y : Type 0} (f : X → Y) (o : Option X) → option_map f o ≡ None → o ≡ None
none_of_map f None e = refl
none_of_map f (Some x) e = absurd (cc)

-- no group is open exactly where no choice is left
module _ (left : Forest Spot) where
  abbrev shown : Forest ℕ
  shown = relabel node_of left

  no_alternatives : first_place left ≡ None → next_alternatives left ≡ None
  no_alternatives none = by (next_alternatives left) refl where
    by : (o : Option (Alternatives Spot)) → next_alternatives left ≡ o → o ≡ None
    by None is = refl
    by (Some g) is = absurd (none-some g.group.place (sym none ∙ first_is left g is))

  pub whole_shown : first_place left ≡ None → choices shown ≡ None
  whole_shown none =
      choices_relabel node_of left
      ∙ ap (option_map (map (relabel node_of)))
      (none_of_map length (choices left) (first_many left ∙ ap (option_map (λ (p : Spot × ℕ). p.1)) (first_of left ∙ ap (option_map counted_kids) (no_alternatives none))))

  pub none_open : choices shown ≡ None → first_place left ≡ None
  none_open none =
      let whole : choices left ≡ None = none_of_map (map (relabel node_of)) (choices left) (sym (choices_relabel node_of left) ∙ none) in
      let first : first_group left ≡ None = none_of_map (λ (p : Spot × ℕ). p.1) (first_group left) (sym (first_many left) ∙ ap (option_map length) whole) in
      no_first left (none_of_map counted_kids (next_alternatives left) (sym (first_of left) ∙ first))

pub none_open_is_selection : (layout : Layout) (d : Forest ℕ) (cs : List ℕ) (at : Option ℕ) → IsFirstOpen layout d cs at → AreWholeWithout d cs at
none_open_is_selection layout d cs at h = record {
  left = relabel node_of h.left;
  leads = h.leaves.leads;
  whole = (λ none. whole_shown h.left (sym h.first ∙ none), λ none. h.first ∙ none_open h.left none);
}

-- the choices are the children
module _ (d e : Forest ℕ) (cs : List ℕ) (k group children : ℕ) (leads : after d cs ≡ Some e) (first : first_group e ≡ Some (group, children)) where
  below : IsPrefix d (cs ++ k ∷ []) → k < children
  below h = by (choices e) (first_many e ∙ ap (option_map (λ (g : ℕ × ℕ). g.1)) first)
      (subst IsSome (after_more cs (k ∷ []) d ∙ ap (option_and_then (λ x. after x (k ∷ []))) leads) h) where
        there : (es : List (Forest ℕ)) (o : Option (Forest ℕ)) → slice_get es k ≡ o → IsSome (option_and_then (λ x. after x []) o) → k < length es
        there es None is h = absurd (cc)
        there es (Some f) is h = slice_get_within es k f is

        by : (o : Option (List (Forest ℕ))) → option_map length o ≡ Some children → IsSome (option_and_then (λ x. after x []) (option_and_then (λ es. slice_get es k) o)) → k < children
        by None e h = absurd (cc)
        by (Some es) e h = let less = there es (slice_get es k) refl h in omega (arith, less, same_Some (length es) children e)

  pub children_are_choices : IsPrefix d (cs ++ k ∷ []) ↔ (k < children)
  children_are_choices = (
    below,
    λ less. prefix_push d cs k group children (subst IsSome (sym leads) refl) (subst (λ o. IfSome o (λ x. Some (group, children) ≡ first_group x)) (sym leads) (sym first)) less,
  )

-- the first group is settled
stands_behind : {X : Type 0} (xs ys : List X) (k : ℕ) (y : X) → slice_get ys k ≡ Some y → slice_get (xs ++ ys) (length xs + k) ≡ Some y
stands_behind [] ys k y is = let z : 0 + k ≡ k = omega arith in ap (slice_get ys) z ∙ is
stands_behind (x ∷ xs) ys k y is = let z : suc (length xs) + k ≡ suc (length xs + k) = omega arith in ap (slice_get (x ∷ (xs ++ ys))) z ∙ stands_behind xs ys k y is

group_stands : (d : Forest ℕ) (group children : ℕ) → first_group d ≡ Some (group, children) → (k : ℕ) × (slice_get (settled d) k ≡ Some group)
group_stands Empty group children is = absurd (cc)
group_stands (Group n kids rest) group children is = (0, ap (λ x. Some x) (ap (λ (p : ℕ × ℕ). p.0) (same_Some (n, length (each kids)) (group, children) is)))
group_stands (Plain n kids rest) group children is = by (first_group kids) is (λ e. group_stands kids group children e) (λ e. group_stands rest group children e) refl where
  by : (o : Option (ℕ × ℕ)) → option_or o (first_group rest) ≡ Some (group, children)
      → (first_group kids ≡ Some (group, children) → (k : ℕ) × (slice_get (settled kids) k ≡ Some group))
      → (first_group rest ≡ Some (group, children) → (k : ℕ) × (slice_get (settled rest) k ≡ Some group))
      → first_group kids ≡ o → (k : ℕ) × (slice_get (settled (Plain n kids rest)) k ≡ Some group)
  by None is' in_kids in_rest e = let (k, at) = in_rest is' in (suc (length (settled kids) + k), stands_behind (settled kids) (settled rest) k group at)
  by (Some p) is' in_kids in_rest e = let (k, at) = in_kids (e ∙ is') in (suc k, in_front (settled kids) (settled rest) k group at)

pub first_group_is_settled : (d : Forest ℕ) (group children : ℕ) → first_group d ≡ Some (group, children) → Contains (settled d) group
first_group_is_settled d group children is =
    let (k, at) = group_stands d group children is in (k, slice_get_within (settled d) k group at, get_or_from_slice_get (settled d) k group group at)

-- each choice leaves fewer groups
module _ {A : Type 0} where
  abbrev pub groups : Forest A → ℕ
  groups Empty = 0
  groups (Plain n kids rest) = groups kids + groups rest
  groups (Group n kids rest) = suc (groups kids + groups rest)

  pub groups_few : (d : Forest A) → groups d ≤ size d
  groups_few Empty = omega arith
  groups_few (Plain n kids rest) = let a = groups_few kids in let b = groups_few rest in omega (arith, a, b)
  groups_few (Group n kids rest) = let a = groups_few kids in let b = groups_few rest in omega (arith, a, b)

  abbrev Within : ℕ → Forest A → Type 0
  Within many e = groups e ≤ many

  weaker : (a b : ℕ) (xs : List (Forest A)) → a ≤ b → AllByRecursion (Within a) xs → AllByRecursion (Within b) xs
  weaker a b [] less all = tt
  weaker a b (x ∷ xs) less all = (omega (arith, all.0, less), weaker a b xs less all.1)

  each_within : (d : Forest A) → AllByRecursion (Within (groups d)) (each d)
  each_within Empty = tt
  each_within (Plain n kids rest) = (omega arith, weaker (groups rest) (groups kids + groups rest) (each rest) (omega arith) (each_within rest))
  each_within (Group n kids rest) = (omega arith, weaker (groups rest) (suc (groups kids + groups rest)) (each rest) (omega arith) (each_within rest))

  abbrev Fewer : Forest A → Forest A → Type 0
  Fewer d e = suc (groups e) ≤ groups d

  fewer_in : (n : A) (kids rest : Forest A) (ks rs : Option (List (Forest A))) → IfAny (Unit {0}) (AllByRecursion (Fewer kids)) ks → IfAny (Unit {0}) (AllByRecursion (Fewer rest)) rs
      → IfAny (Unit {0}) (AllByRecursion (Fewer (Plain n kids rest))) (kids_else_rest (λ k. Plain n k rest) (λ r. Plain n kids r) ks rs)
  fewer_in n kids rest (Some ks) rs hk hr = all_mapped (Fewer kids) (Fewer (Plain n kids rest)) (λ k. Plain n k rest) ks (λ k p. omega (arith, p)) hk
  fewer_in n kids rest None (Some rs) hk hr = all_mapped (Fewer rest) (Fewer (Plain n kids rest)) (λ r. Plain n kids r) rs (λ r p. omega (arith, p)) hr
  fewer_in n kids rest None None hk hr = tt

  fewer : (d : Forest A) → IfAny (Unit {0}) (AllByRecursion (Fewer d)) (choices d)
  fewer Empty = tt
  fewer (Plain n kids rest) = fewer_in n kids rest (choices kids) (choices rest) (fewer kids) (fewer rest)
  fewer (Group n kids rest) = all_mapped (Within (groups kids)) (Fewer (Group n kids rest)) (λ kid. Plain n kid rest) (each kids) (λ kid p. omega (arith, p)) (each_within kids)

  pub one_fewer : (d e : Forest A) (c : ℕ) → chosen d c ≡ Some e → Fewer d e
  one_fewer d e c is = by (choices d) (fewer d) is where
    by : (o : Option (List (Forest A))) → IfAny (Unit {0}) (AllByRecursion (Fewer d)) o → option_and_then (λ es. slice_get es c) o ≡ Some e → Fewer d e
    by None all is' = absurd (cc)
    by (Some es) all is' = all_at (Fewer d) es c e is' all

  pub groups_after : (cs : List ℕ) (d e : Forest A) → after d cs ≡ Some e → length cs + groups e ≤ groups d
  groups_after [] d e is = let same : groups d ≡ groups e = ap groups (same_Some d e is) in omega (arith, same)
  groups_after (c ∷ cs) d e is = option_and_then_some (λ x. after x cs) (chosen d c) e is
      (λ x one on. let a = groups_after cs x e on in let b = one_fewer d x c one in omega (arith, a, b))

-- a domain has no more groups than nodes
pub size_by : (nodes : List NodeFacts) (r : ℕ) → IsTree nodes → (o : Option NodeFacts) → slice_get nodes r ≡ o → size (forest_of by_number nodes r []) ≤ 128
size_by nodes r tree None is = let e : size (forest_of by_number nodes r []) ≡ 0 = ap (λ o. size (rooted by_number nodes r [] o)) is in omega (arith, e)
size_by nodes r tree (Some n) is =
    let there = slice_get_within nodes r n is in
    let few = few_numbers r (drop (r + 1) nodes) (r + 1) r (omega arith) in
    let e : size (forest_of by_number nodes r []) ≡ suc (size (numbers r (r + 1) (drop (r + 1) nodes) r) + 0) =
    ap size (forest_here nodes tree r n there is) ∙ size_tree n.state.kind r (numbers r (r + 1) (drop (r + 1) nodes) r) Empty in
    omega (arith, e, few, length-drop (r + 1) nodes, there, tree.few)

pub few_choices : (nodes : List NodeFacts) (r : ℕ) (cs : List ℕ) → IsTree nodes → IsPrefix (forest_of by_number nodes r []) cs → length cs ≤ 128
few_choices nodes r cs tree h = by (after (forest_of by_number nodes r []) cs) refl h where
  by : (o : Option (Forest ℕ)) → after (forest_of by_number nodes r []) cs ≡ o → IsSome o → length cs ≤ 128
  by None is h = absurd (cc)
  by (Some e) is h =
      let a = groups_after cs (forest_of by_number nodes r []) e is in
      let b = groups_few (forest_of by_number nodes r []) in
      let c = size_by nodes r tree (slice_get nodes r) refl in omega (arith, a, b, c)

-- the first group under other labels
module _ {A B : Type 0} (f : A → B) where
  many_relabel : (d : Forest A) → length (each (relabel f d)) ≡ length (each d)
  many_relabel Empty = refl
  many_relabel (Plain s kids rest) = ap (λ n. suc n) (many_relabel rest)
  many_relabel (Group s kids rest) = ap (λ n. suc n) (many_relabel rest)

  abbrev over : A × ℕ → B × ℕ
  over g = (f g.0, g.1)

  map_or : (a b : Option (A × ℕ)) → option_map over (option_or a b) ≡ option_or (option_map over a) (option_map over b)
  map_or None b = refl
  map_or (Some g) b = refl

  pub first_relabel : (d : Forest A) → first_group (relabel f d) ≡ option_map over (first_group d)
  first_relabel Empty = refl
  first_relabel (Plain s kids rest) = ap (λ o. option_or o (first_group (relabel f rest))) (first_relabel kids)
      ∙ (ap (option_or (option_map over (first_group kids))) (first_relabel rest) ∙ sym (map_or (first_group kids) (first_group rest)))
  first_relabel (Group s kids rest) = ap (λ n. Some (f s, n)) (many_relabel kids)

if_some : {X : Type 0} (P : X → Type 0) → ((x : X) → P x) → (o : Option X) → IfSome o P
if_some P h None = tt
if_some P h (Some x) = h x

pub choices_leave_one_forest : (nodes : List NodeFacts) (r : ℕ) (cs : List ℕ) → LeaveOneForest nodes r cs
choices_leave_one_forest nodes r cs =
    let b = forest_of by_both nodes r (path_of nodes r) in
    let one = one_forest nodes r in
    record {
      left = after b cs;
      numbers = ap (λ x. after x cs) (sym one.numbers) ∙ after_relabel number cs b;
      members = ap (λ x. after x cs) (sym one.members) ∙ after_relabel member cs b;
      settled_numbers = if_some _ (settled_relabel number) (after b cs);
      settled_members = if_some _ (settled_relabel member) (after b cs);
      group_number = if_some _ (first_relabel number) (after b cs);
      group_member = if_some _ (first_relabel member) (after b cs);
    }
