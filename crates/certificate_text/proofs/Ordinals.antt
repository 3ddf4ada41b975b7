-- The ordinals in a tree are below 128, so that each node's path can be read.
use Rattle.std.proofs.Common.{◌≡◌, ℕ, zero, suc, ◌+◌, ◌<◌, ◌≤◌, ◌==◌, ◌++◌, ◌⊎◌, inl, inr, List, [], ◌∷◌, length, Option, Some, None, IfSome, IsSomeAnd, slice_get, filter_map, option_map, option_and_then, refl, sym, ap, subst, ◌∙◌, arith, eq-eqb}
use Rattle.std.specs.List.{cons_option}
use Rattle.std.specs.Prelude.{unwrap_or, if◌then◌else◌}
use Rattle.std.proofs.lemmas.Option.{same_Some, slice_get_within}
use Rattle.list_lemmas.proofs.CallerLemmas.{slice_get_some}
use Rattle.sysmem_counts.specs.Bounds.{most_number}
use Rattle.sysmem_tree.specs.declared.node.Birth.{Birth}
use Rattle.sysmem_tree.specs.Node.{NodeFacts}
use Rattle.sysmem_tree.specs.Nodes.{IsTree, ordinal_under, ordinals, count_from}
use Rattle.sysmem_tree.specs.Path.{birth_of, path_within, path_of}
use Rattle.certificate_text.specs.CanBeRead.{HasSteps}

-- a number is one of a list
abbrev In : ℕ → List ℕ → Type 0
In n [] = ⊥
In n (m ∷ ms) = (m ≡ n) ⊎ In n ms

-- the numbers from one on are below its sum with how many they are
counted_below : (a many n : ℕ) → In n (count_from a many) → n < a + many
counted_below a zero n h = absurd h
counted_below a (suc many) n (inl same) = omega (arith, same)
counted_below a (suc many) n (inr h) = let less = counted_below (a + 1) many n h in omega (arith, less)

length-count_from : (a many : ℕ) → length (count_from a many) ≡ many
length-count_from a zero = refl
length-count_from a (suc many) = ap suc (length-count_from (a + 1) many)

module _ {X : Type 0} (f : X → Option ℕ) where
  in_cons : (o : Option ℕ) (n : ℕ) (ns : List ℕ) → In n ns → In n (cons_option o ns)
  in_cons None n ns h = h
  in_cons (Some m) n ns h = inr h

  -- what is made of one of a list is among what is made of it
  made_in : (xs : List X) (k : ℕ) (x : X) (n : ℕ) → slice_get xs k ≡ Some x → f x ≡ Some n → In n (filter_map f xs)
  made_in [] k x n here is = absurd (cc)
  made_in (y ∷ xs) zero x n here is =
      let same : f y ≡ Some n = ap f (same_Some y x here) ∙ is in
      subst (λ o. In n (cons_option o (filter_map f xs))) (sym same) (inl refl)
  made_in (y ∷ xs) (suc k) x n here is = in_cons (f y) n (filter_map f xs) (made_in xs k x n here is)

  one_longer : (o : Option ℕ) (ns : List ℕ) (many : ℕ) → length ns ≤ many → length (cons_option o ns) ≤ suc many
  one_longer None ns many h = omega (arith, h)
  one_longer (Some m) ns many h = omega (arith, h)

  made_few : (xs : List X) → length (filter_map f xs) ≤ length xs
  made_few [] = omega arith
  made_few (x ∷ xs) = one_longer (f x) (filter_map f xs) (length xs) (made_few xs)

-- a child's ordinal is a number of 32 bits
abbrev pub HasOrdinal : NodeFacts → Type 0
HasOrdinal n = IfSome n.birth (λ b. b.ordinal ≤ most_number)

module _ (nodes : List NodeFacts) (tree : IsTree nodes) where
  -- a child comes after its parent
  older : (k : ℕ) (n : NodeFacts) (b : Birth) → slice_get nodes k ≡ Some n → n.birth ≡ Some b → b.parent < length nodes
  older zero n b here born = at (slice_get nodes 0) here tree.root where
    at : (o : Option NodeFacts) → o ≡ Some n → IsSomeAnd o (λ x. (x.birth ≡ None) × (x.domain ≡ 0)) → b.parent < length nodes
    at None e h = absurd h
    at (Some x) e h =
        let none : n.birth ≡ None = ap (λ (y : NodeFacts). y.birth) (sym (same_Some x n e)) ∙ h.0 in
        let both : Some b ≡ None = sym born ∙ none in absurd (cc)
  older (suc k) n b here born =
      let less : b.parent ≤ k = subst (λ o. IsSomeAnd o (λ (x : Birth). x.parent ≤ k)) born (tree.child k n here) in
      let within = slice_get_within nodes (suc k) n here in omega (arith, less, within)

  -- its ordinal is one of its parent's children's
  ordinal_below : (k : ℕ) (n : NodeFacts) (b : Birth) → slice_get nodes k ≡ Some n → n.birth ≡ Some b → b.ordinal < 128
  ordinal_below k n b here born =
      let (parent, there) = slice_get_some nodes b.parent (older k n b here born) in
      let numbered : ordinals b.parent nodes ≡ count_from 0 parent.state.children = tree.numbered b.parent parent there in
      let own : (if b.parent == b.parent then Some b.ordinal else None) ≡ Some b.ordinal = ap (λ t. if t then Some b.ordinal else None) (eq-eqb b.parent b.parent refl) in
      let is : ordinal_under b.parent n.birth ≡ Some b.ordinal = ap (ordinal_under b.parent) born ∙ own in
      let among : In b.ordinal (ordinals b.parent nodes) = made_in (λ (x : NodeFacts). ordinal_under b.parent x.birth) nodes k n b.ordinal here is in
      let below : b.ordinal < 0 + parent.state.children = counted_below 0 parent.state.children b.ordinal (subst (In b.ordinal) numbered among) in
      let few : length (ordinals b.parent nodes) ≤ length nodes = made_few (λ (x : NodeFacts). ordinal_under b.parent x.birth) nodes in
      let many : length (ordinals b.parent nodes) ≡ parent.state.children = ap length numbered ∙ length-count_from 0 parent.state.children in
      let all : length nodes ≤ 128 = tree.few in omega (arith, below, few, many, all)

  pub has_ordinal : (k : ℕ) (n : NodeFacts) → slice_get nodes k ≡ Some n → HasOrdinal n
  has_ordinal k n here = by n.birth refl where
    by : (o : Option Birth) → n.birth ≡ o → IfSome o (λ b. b.ordinal ≤ most_number)
    by None born = tt
    by (Some b) born = let less : b.ordinal < 128 = ordinal_below k n b here born in omega (arith, less)

pub steps-append : (xs ys : List ℕ) → HasSteps xs → HasSteps ys → HasSteps (xs ++ ys)
steps-append [] ys a b = b
steps-append (x ∷ xs) ys a b = (a.0, steps-append xs ys a.1 b)

-- a node's path can be read
pub path_steps : (nodes : List NodeFacts) (i : ℕ) → IsTree nodes → HasSteps (path_of nodes i)
path_steps nodes i tree = within 128 i where
  born : (steps : ℕ) → ((j : ℕ) → HasSteps (path_within steps nodes j)) → (o : Option Birth) → IfSome o (λ b. b.ordinal ≤ most_number)
      → HasSteps (unwrap_or (option_map (λ b. path_within steps nodes b.parent ++ b.ordinal ∷ []) o) [])
  born steps rest None h = tt
  born steps rest (Some b) h = steps-append (path_within steps nodes b.parent) (b.ordinal ∷ []) (rest b.parent) (h, tt)

  ordinal_of : (j : ℕ) (o : Option NodeFacts) → slice_get nodes j ≡ o → IfSome (option_and_then (λ (n : NodeFacts). n.birth) o) (λ b. b.ordinal ≤ most_number)
  ordinal_of j None here = tt
  ordinal_of j (Some n) here = has_ordinal nodes tree j n here

  within : (steps j : ℕ) → HasSteps (path_within steps nodes j)
  within zero j = tt
  within (suc steps) j = born steps (within steps) (birth_of nodes j) (ordinal_of j (slice_get nodes j) refl)
