-- A domain has no more nodes than there are.
use Rattle.std.proofs.Common.{◌≡◌, ◌≢◌, ◌≤◌, ◌<◌, ℕ, zero, suc, ◌+◌, ◌==◌, Bool, true, false, List, [], ◌∷◌, Option, Some, None, length, drop, slice_get, refl, sym, ◌∙◌, ap, subst, arith, inl, inr}
use Rattle.std.specs.Prelude.{is_some, IsSomeAnd, if◌then◌else◌}
use Rattle.std.proofs.lemmas.Bool.{cases_Bool, cases_eq, cases_lt, ne_eqb}
use Rattle.std.proofs.lemmas.Option.{same_Some}
use Rattle.sysmem_tree.specs.declared.node.Birth.{Birth}
use Rattle.sysmem_tree.specs.Layout.{size}
use Rattle.sysmem_tree.specs.Node.{NodeFacts}
use Rattle.sysmem_tree.specs.Nodes.{ordinal_under, IsTree}
use Rattle.sysmem_tree.specs.Shape.{kid_of, forest_of, rooted, by_number, tree_of}
use Rattle.sysmem_tree.specs.Forest.{Empty}
use Rattle.sysmem_tree.proofs.layouts.Layouts.{size_tree}
use Rattle.sysmem_tree.proofs.forests.Numbers.{numbers, numbers_kid, numbers_other, front}

-- the sum over the numbers below one
abbrev sum_below : ℕ → (ℕ → ℕ) → ℕ
sum_below zero f = 0
sum_below (suc k) f = f k + sum_below k f

part : (k : ℕ) (f : ℕ → ℕ) (p : ℕ) → p < k → f p ≤ sum_below k f
part zero f p less = absurd (omega (arith, less))
part (suc k) f p less = elim (cases_eq p k) [
  | inl same ↦ let e : f p ≡ f k = ap f same in omega (arith, e)
  | inr other ↦ let h = part k f p (omega (arith, less, other)) in omega (arith, h)
]

sum_less : (k : ℕ) (f g : ℕ → ℕ) → ((p : ℕ) → p < k → f p ≤ g p) → sum_below k f ≤ sum_below k g
sum_less zero f g h = omega arith
sum_less (suc k) f g h =
    let one = h k (omega arith) in
    let all = sum_less k f g (λ p q. h p (omega (arith, q))) in omega (arith, one, all)

-- where only one part may grow, the sum grows by no more
sum_grows : (k : ℕ) (f g : ℕ → ℕ) (q m : ℕ) → ((p : ℕ) → p ≢ q → f p ≤ g p) → f q ≤ m + g q → sum_below k f ≤ m + sum_below k g
sum_grows zero f g q m h one = omega arith
sum_grows (suc k) f g q m h one = elim (cases_eq k q) [
  | inl same ↦
      let all = sum_less k f g (λ p less. h p (λ e. omega (arith, e, same, less))) in
      let here : f k ≤ m + g k = subst (λ x. f x ≤ m + g x) (sym same) one in omega (arith, all, here)
  | inr other ↦
      let all = sum_grows k f g q m h one in
      let here = h k other in omega (arith, all, here)
]

-- a child adds itself and what is below it
size_most : (domain i p : ℕ) (n : NodeFacts) (nodes : List NodeFacts) → size (numbers domain i (n ∷ nodes) p) ≤ suc (size (numbers domain (i + 1) nodes i)) + size (numbers domain (i + 1) nodes p)
size_most domain i p n nodes = elim (cases_Bool (is_some (kid_of domain p n))) [
  | inl kid ↦
      let e : size (numbers domain i (n ∷ nodes) p) ≡ suc (size (numbers domain (i + 1) nodes i) + size (numbers domain (i + 1) nodes p)) =
      ap size (numbers_kid domain i p n nodes kid) ∙ size_tree n.state.kind i (numbers domain (i + 1) nodes i) (numbers domain (i + 1) nodes p) in
      omega (arith, e)
  | inr other ↦ let e : size (numbers domain i (n ∷ nodes) p) ≡ size (numbers domain (i + 1) nodes p) = ap size (numbers_other domain i p n nodes other) in omega (arith, e)
]

-- the parent of a node, if any
abbrev parent_or : ℕ → Option Birth → ℕ
parent_or d None = d
parent_or d (Some b) = b.parent

if_false : {X : Type 0} (t : Bool) (x y : X) → t ≡ false → (if t then x else y) ≡ y
if_false true x y e = absurd (cc)
if_false false x y e = refl

under_other : (o : Option Birth) (p : ℕ) → p ≢ parent_or p o → ordinal_under p o ≡ None
under_other None p other = refl
under_other (Some b) p other = if_false (b.parent == p) (Some b.ordinal) None (ne_eqb b.parent p (λ e. other (sym e)))

none_kid : (t : Bool) (o : Option ℕ) → o ≡ None → is_some (if t then o else None) ≡ false
none_kid true o e = ap is_some e
none_kid false o e = refl

not_kid : (domain p : ℕ) (n : NodeFacts) → ordinal_under p n.birth ≡ None → is_some (kid_of domain p n) ≡ false
not_kid domain p n none = none_kid (n.domain == domain) (ordinal_under p n.birth) none

-- the nodes below different nodes are different ones
few_below : (domain : ℕ) (nodes : List NodeFacts) (i : ℕ) → sum_below i (λ p. size (numbers domain i nodes p)) ≤ length nodes
few_below domain [] i = none i where
  none : (k : ℕ) → sum_below k (λ p. 0) ≤ 0
  none zero = omega arith
  none (suc k) = let h = none k in omega (arith, h)
few_below domain (n ∷ nodes) i =
    let grown = sum_grows i (λ p. size (numbers domain i (n ∷ nodes) p)) (λ p. size (numbers domain (i + 1) nodes p)) (parent_or i n.birth) (suc (size (numbers domain (i + 1) nodes i)))
    (λ p other. same p (elim_parent n.birth p other)) (size_most domain i (parent_or i n.birth) n nodes) in
    let z : i + 1 ≡ suc i = omega arith in
    let later : size (numbers domain (i + 1) nodes i) + sum_below i (λ p. size (numbers domain (i + 1) nodes p)) ≤ length nodes =
    subst (λ k. sum_below k (λ p. size (numbers domain (i + 1) nodes p)) ≤ length nodes) z (few_below domain nodes (i + 1)) in
    omega (arith, grown, later) where
      elim_parent : (o : Option Birth) (p : ℕ) → p ≢ parent_or i o → ordinal_under p o ≡ None
      elim_parent None p other = refl
      elim_parent (Some b) p other = if_false (b.parent == p) (Some b.ordinal) None (ne_eqb b.parent p (λ e. other (sym e)))

      same : (p : ℕ) → ordinal_under p n.birth ≡ None → size (numbers domain i (n ∷ nodes) p) ≤ size (numbers domain (i + 1) nodes p)
      same p none =
          let e : size (numbers domain i (n ∷ nodes) p) ≡ size (numbers domain (i + 1) nodes p) = ap size (numbers_other domain i p n nodes (not_kid domain p n none)) in omega (arith, e)

pub few_numbers : (domain : ℕ) (nodes : List NodeFacts) (i p : ℕ) → p < i → size (numbers domain i nodes p) ≤ length nodes
few_numbers domain nodes i p less =
    let all = few_below domain nodes i in
    let one = part i (λ p. size (numbers domain i nodes p)) p less in omega (arith, all, one)

-- a node's children were made after it
module _ (nodes : List NodeFacts) (tree : IsTree nodes) (r : ℕ) where
  older : (o : Option Birth) (k : ℕ) → IsSomeAnd o (λ b. b.parent ≤ k) → k < r → ordinal_under r o ≡ None
  older None k h less = refl
  older (Some b) k h less = if_false (b.parent == r) (Some b.ordinal) None (ne_eqb b.parent r (λ e. omega (arith, e, h, less)))

  no_kid : (j : ℕ) (n : NodeFacts) → j ≤ r → slice_get nodes j ≡ Some n → ordinal_under r n.birth ≡ None
  no_kid zero n less at = ap (ordinal_under r) (root (slice_get nodes 0) at tree.root) where
    root : (o : Option NodeFacts) → o ≡ Some n → IsSomeAnd o (λ n. (n.birth ≡ None) × (n.domain ≡ 0)) → n.birth ≡ None
    root None e h = absurd h
    root (Some m) e h = ap (λ (x : NodeFacts). x.birth) (sym (same_Some m n e)) ∙ h.0
  no_kid (suc k) n less at = older n.birth k (tree.child k n at) (omega (arith, less))

  -- so a child of it comes behind it
  pub kid_is_later : (domain k : ℕ) (n : NodeFacts) → slice_get nodes k ≡ Some n → is_some (kid_of domain r n) ≡ true → r < k
  kid_is_later domain k n at kid = elim (cases_lt r k) [
    | inl less ↦ less
    | inr small ↦ absurd (contradicts (sym kid ∙ not_kid domain r n (no_kid k n small at)))
  ] where
    contradicts : true ≡ false → ⊥
    contradicts e = absurd (cc)

  pub kids_later : (domain j : ℕ) → j ≤ suc r → r < length nodes → numbers domain 0 nodes r ≡ numbers domain j (drop j nodes) r
  kids_later domain zero small there = refl
  kids_later domain (suc j) small there =
      let (n, at, is) = front nodes j (omega (arith, small, there)) in
      let z : j + 1 ≡ suc j = omega arith in
      kids_later domain j (omega (arith, small)) there
      ∙ (ap (λ xs. numbers domain j xs r) is
      ∙ (numbers_other domain j r n (drop (suc j) nodes) (not_kid domain r n (no_kid j n (omega (arith, small)) at))
      ∙ ap (λ i. numbers domain i (drop (suc j) nodes) r) z))

  -- the domain's root, and below it what was made later
  pub forest_here : (n : NodeFacts) → r < length nodes → slice_get nodes r ≡ Some n → forest_of by_number nodes r [] ≡ tree_of n.state.kind r (numbers r (r + 1) (drop (r + 1) nodes) r) Empty
  forest_here n there at = ap (rooted by_number nodes r []) at ∙ ap (λ x. tree_of n.state.kind r x Empty) (kids_later r (r + 1) (omega arith) there)
