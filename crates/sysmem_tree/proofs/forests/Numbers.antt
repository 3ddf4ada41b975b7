-- The forest of a domain by the numbers of its nodes, in steps along the nodes.
use Rattle.std.proofs.Common.{◌≡◌, ◌≤◌, ◌<◌, ℕ, zero, suc, ◌+◌, ◌*◌, ◌++◌, Bool, true, false, List, [], ◌∷◌, Option, Some, None, min, length, drop, get_or, slice_get, refl, sym, ◌∙◌, ap, subst, arith, inl, inr}
use Rattle.std.specs.Prelude.{◌⊎◌, is_some}
use Rattle.std.proofs.lemmas.Bool.{cases_lt}
use Rattle.std.proofs.lemmas.List.{drop_more}
use Rattle.std.proofs.Math.Nat.{le_trans, le-mul_of_pos_right, mul_comm}
use Rattle.sysmem_tree.specs.declared.state.NodeKind.{NodeKind}
use Rattle.sysmem_tree.specs.declared.state.NodeKind.TheVariants as kinds
use Rattle.sysmem_tree.specs.Forest.{Forest}
use Rattle.sysmem_tree.specs.Layout.{is_group, count_as}
use Rattle.sysmem_tree.specs.Node.{NodeFacts}
use Rattle.sysmem_tree.specs.Shape.{tree_of, kid_of, before, kids_from, by_number}

-- the children of p, whatever its path
abbrev pub numbers : ℕ → ℕ → List NodeFacts → ℕ → Forest ℕ
numbers domain i nodes p = kids_from by_number domain i nodes p []

before_same : (o : Option ℕ) (kid kid' : ℕ → Forest ℕ → Forest ℕ) (rest rest' : Forest ℕ) → ((k : ℕ) → kid k rest ≡ kid' k rest') → rest ≡ rest' → before o kid rest ≡ before o kid' rest'
before_same None kid kid' rest rest' own same = same
before_same (Some k) kid kid' rest rest' own same = own k

-- numbers are the same whatever the path
pub any_path : (domain : ℕ) (nodes : List NodeFacts) (i p : ℕ) (path path' : List ℕ) → kids_from by_number domain i nodes p path ≡ kids_from by_number domain i nodes p path'
any_path domain [] i p path path' = refl
any_path domain (n ∷ nodes) i p path path' = before_same (kid_of domain p n)
    (λ o. tree_of n.state.kind i (kids_from by_number domain (i + 1) nodes i (path ++ o ∷ [])))
    (λ o. tree_of n.state.kind i (kids_from by_number domain (i + 1) nodes i (path' ++ o ∷ [])))
    _ _
    (λ o. ap (λ x. tree_of n.state.kind i x (kids_from by_number domain (i + 1) nodes p path)) (any_path domain nodes (i + 1) i (path ++ o ∷ []) (path' ++ o ∷ []))
    ∙ ap (λ x. tree_of n.state.kind i (kids_from by_number domain (i + 1) nodes i (path' ++ o ∷ [])) x) (any_path domain nodes (i + 1) p path path'))
    (any_path domain nodes (i + 1) p path path')

-- a child comes with its own children before the others
kid_before : (o : Option ℕ) (kid : ℕ → Forest ℕ → Forest ℕ) (d rest : Forest ℕ) → is_some o ≡ true → ((k : ℕ) → kid k rest ≡ d) → before o kid rest ≡ d
kid_before None kid d rest there is = absurd (cc)
kid_before (Some k) kid d rest there is = is k

pub numbers_kid : (domain i p : ℕ) (n : NodeFacts) (nodes : List NodeFacts) → is_some (kid_of domain p n) ≡ true
    → numbers domain i (n ∷ nodes) p ≡ tree_of n.state.kind i (numbers domain (i + 1) nodes i) (numbers domain (i + 1) nodes p)
numbers_kid domain i p n nodes there = kid_before (kid_of domain p n)
    (λ o. tree_of n.state.kind i (kids_from by_number domain (i + 1) nodes i (o ∷ [])))
    _ (numbers domain (i + 1) nodes p) there
    (λ o. ap (λ x. tree_of n.state.kind i x (numbers domain (i + 1) nodes p)) (any_path domain nodes (i + 1) i (o ∷ []) []))

-- and what is no child is left out
none_before : (o : Option ℕ) (kid : ℕ → Forest ℕ → Forest ℕ) (rest : Forest ℕ) → is_some o ≡ false → before o kid rest ≡ rest
none_before None kid rest none = refl
none_before (Some k) kid rest none = absurd (cc)

pub numbers_other : (domain i p : ℕ) (n : NodeFacts) (nodes : List NodeFacts) → is_some (kid_of domain p n) ≡ false → numbers domain i (n ∷ nodes) p ≡ numbers domain (i + 1) nodes p
numbers_other domain i p n nodes none = none_before (kid_of domain p n) (λ o. tree_of n.state.kind i (kids_from by_number domain (i + 1) nodes i (o ∷ []))) (numbers domain (i + 1) nodes p) none

abbrev most : ℕ
most = 18446744073709551615

-- the greatest u64

-- a product of numbers that were cut off
mul_cut_both : (a b : ℕ) → (a < most) ⊎ (most ≤ a) → (b < most) ⊎ (most ≤ b) → min (min a most * min b most) most ≡ min (a * b) most
mul_cut_both a b (inl p) (inl q) =
    let x : min a most ≡ a = omega (arith, p) in
    let y : min b most ≡ b = omega (arith, q) in rw (x, y) refl
mul_cut_both a zero (inr p) q =
    let x : min a most * 0 ≡ 0 = omega arith in
    let y : a * 0 ≡ 0 = omega arith in rw (x, y) refl
mul_cut_both a (suc b) (inr p) q = large (min a most * min (suc b) most) (a * suc b)
    (over (min a most) (min (suc b) most) (omega (arith, p)) (omega arith)) (over a (suc b) p (omega arith)) where
      over : (x y : ℕ) → most ≤ x → 0 < y → most ≤ x * y
      over x y big some = le_trans big (le-mul_of_pos_right x some)

      large : (x y : ℕ) → most ≤ x → most ≤ y → min x most ≡ min y most
      large x y p q = omega (arith, p, q)
mul_cut_both zero b p (inr q) =
    let x : min zero most * min b most ≡ 0 = omega arith in
    let y : zero * b ≡ 0 = omega arith in rw (x, y) refl
mul_cut_both (suc a) b (inl p) (inr q) = large (min (suc a) most * min b most) (suc a * b)
    (over (min (suc a) most) (min b most) (omega arith) (omega (arith, q))) (over (suc a) b (omega arith) q) where
      over : (x y : ℕ) → 0 < x → most ≤ y → most ≤ x * y
      over x y some big = le_trans big (subst (λ z. y ≤ z) (mul_comm y x) (le-mul_of_pos_right y some))

      large : (x y : ℕ) → most ≤ x → most ≤ y → min x most ≡ min y most
      large x y p q = omega (arith, p, q)

mul_cut : (a b : ℕ) → min (min a most * min b most) most ≡ min (a * b) most
mul_cut a b = mul_cut_both a b (cases_lt a most) (cases_lt b most)

add_cut : (a b : ℕ) → min (min a most + min b most) most ≡ min (a + b) most
add_cut a b = omega arith

-- of alternatives
count_alternative : (k : NodeKind) (i : ℕ) (a b : Forest ℕ) → count_as true (tree_of k i a b) ≡ count_as (is_group k) a + count_as true b
count_alternative kinds.Token i a b = refl
count_alternative kinds.Group i a b = refl
count_alternative kinds.Collection i a b = refl

-- of nodes that are all there
pub count_plain : (k : NodeKind) (i : ℕ) (a b : Forest ℕ) → count_as false (tree_of k i a b) ≡ count_as (is_group k) a * count_as false b
count_plain kinds.Token i a b = refl
count_plain kinds.Group i a b = refl
count_plain kinds.Collection i a b = refl

-- a node in front of the others
pub drop_here : (nodes : List NodeFacts) (i : ℕ) (n : NodeFacts) → i < length nodes → n ≡ get_or nodes i n → drop i nodes ≡ n ∷ drop (i + 1) nodes
drop_here nodes i n less is = drop_more nodes i n less ∙ ap (λ x. x ∷ drop (i + 1) nodes) (sym is)

-- a child in the middle of the nodes
pub numbers_here : (nodes : List NodeFacts) (domain i p : ℕ) (n : NodeFacts) → i < length nodes → n ≡ get_or nodes i n → is_some (kid_of domain p n) ≡ true
    → numbers domain i (drop i nodes) p ≡ tree_of n.state.kind i (numbers domain (i + 1) (drop (i + 1) nodes) i) (numbers domain (i + 1) (drop (i + 1) nodes) p)
numbers_here nodes domain i p n less is there = ap (λ xs. numbers domain i xs p) (drop_here nodes i n less is) ∙ numbers_kid domain i p n (drop (i + 1) nodes) there

module _ (k : NodeKind) (i : ℕ) (kids others d : Forest ℕ) (own rest : ℕ) (is : d ≡ tree_of k i kids others) (here : own ≡ min (count_as (is_group k) kids) most) where
  -- counts of alternatives are added
  counted_alternatives : rest ≡ min (count_as true others) most → min (own + rest) most ≡ min (count_as true d) most
  counted_alternatives behind =
      ap (λ x. min (x + rest) most) here
      ∙ (ap (λ x. min (min (count_as (is_group k) kids) most + x) most) behind
      ∙ (add_cut (count_as (is_group k) kids) (count_as true others)
      ∙ ap (λ x. min x most) (sym (ap (count_as true) is ∙ count_alternative k i kids others))))

  -- those of nodes that are all there are multiplied
  counted_plain : rest ≡ min (count_as false others) most → min (own * rest) most ≡ min (count_as false d) most
  counted_plain behind =
      ap (λ x. min (x * rest) most) here
      ∙ (ap (λ x. min (min (count_as (is_group k) kids) most * x) most) behind
      ∙ (mul_cut (count_as (is_group k) kids) (count_as false others)
      ∙ ap (λ x. min x most) (sym (ap (count_as false) is ∙ count_plain k i kids others))))

  -- in one word, by what the parent's children are
  pub counted_as_alternatives : (alternatives : Bool) → alternatives ≡ true → rest ≡ min (count_as alternatives others) most
      → min (own + rest) most ≡ min (count_as alternatives d) most
  counted_as_alternatives true e behind = counted_alternatives behind
  counted_as_alternatives false e behind = absurd (cc)

  pub counted_as_plain : (alternatives : Bool) → alternatives ≡ false → rest ≡ min (count_as alternatives others) most
      → min (own * rest) most ≡ min (count_as alternatives d) most
  counted_as_plain true e behind = absurd (cc)
  counted_as_plain false e behind = counted_plain behind

pub front : {X : Type 0} (xs : List X) (i : ℕ) → i < length xs → (x : X) × (slice_get xs i ≡ Some x) × (drop i xs ≡ x ∷ drop (suc i) xs)
front [] i less = absurd (omega (arith, less))
front (x ∷ xs) zero less = (x, refl, refl)
front (x ∷ xs) (suc i) less = front xs i (omega (arith, less))
