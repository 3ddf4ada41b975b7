-- Children by their ordinals.
use Rattle.std.proofs.Common.{◌≡◌, ◌≢◌, ℕ, zero, suc, ◌+◌, ◌<◌, ◌≤◌, ◌==◌, true, false, List, [], length, ◌∷◌, Option, Some, None, slice_get, refl, sym, ◌∙◌, ap, subst, arith, rules, tests, inl, inr}
use Rattle.std.proofs.lemmas.Bool.{cases_eq}
use Rattle.std.proofs.lemmas.Option.{same_Some}
use Rattle.sysmem_tree.specs.declared.node.Birth.{Birth}
use Rattle.sysmem_tree.specs.Node.{NodeFacts}
use Rattle.sysmem_tree.specs.Nodes.{ordinal_under, ordinals, count_from, IsTree}
use Rattle.sysmem_tree.proofs.nodes.Places.{there}

-- no two nodes are of one birth
abbrev pub Distinct : List NodeFacts → Type 0
Distinct nodes = (j k : ℕ) (m n : NodeFacts) → slice_get nodes j ≡ Some m → slice_get nodes k ≡ Some n → m.birth ≡ n.birth → j ≡ k

eq_self : (a : ℕ) → (a == a) ≡ true
eq_self a = search (rules, tests)

-- a child has its ordinal under its parent, and none under another
pub under_parent : (b : Birth) (o : Option Birth) → o ≡ Some b → ordinal_under b.parent o ≡ Some b.ordinal
under_parent b o is = rw (is, eq_self b.parent) refl

pub under_none : (p : ℕ) (b : Birth) (o : Option Birth) → o ≡ Some b → b.parent ≢ p → ordinal_under p o ≡ None
under_none p b o is other = let t : (b.parent == p) ≡ false = search (rules, tests, other) in rw (is, t) refl

pub under_nobody : (p : ℕ) (o : Option Birth) → o ≡ None → ordinal_under p o ≡ None
under_nobody p o is = rw is refl

-- what has an ordinal under p is that child of it
pub is_under : (p u : ℕ) (o : Option Birth) → ordinal_under p o ≡ Some u → o ≡ Some (record { parent = p; ordinal = u })
is_under p u None e = absurd (cc)
is_under p u (Some b) e = elim (cases_eq b.parent p) [
  | inl same ↦
      let t : (b.parent == p) ≡ true = search (rules, tests, same) in
      let ordinal : b.ordinal ≡ u = same_Some b.ordinal u (rw t at e) in
      rw (← same, ← ordinal) refl
  | inr other ↦ (let t : (b.parent == p) ≡ false = search (rules, tests, other) in let none : ◌≡◌ {A = Option ℕ} None (Some u) = rw t at e in absurd (cc))
]

-- the ordinals of a list by those of its first node and its rest
ordinals_skip : (p : ℕ) (x : NodeFacts) (xs : List NodeFacts) → ordinal_under p x.birth ≡ None → ordinals p (x ∷ xs) ≡ ordinals p xs
ordinals_skip p x xs e = rw e refl

ordinals_take : (p u : ℕ) (x : NodeFacts) (xs : List NodeFacts) → ordinal_under p x.birth ≡ Some u → ordinals p (x ∷ xs) ≡ u ∷ ordinals p xs
ordinals_take p u x xs e = rw e refl

-- where the first of the numbers from a on is u
pub head_is : (u a many : ℕ) (us : List ℕ) → u ∷ us ≡ count_from a many → (m : ℕ) × (many ≡ suc m) × (u ≡ a) × (us ≡ count_from (a + 1) m)
head_is u a zero us e = absurd (cc)
head_is u a (suc m) us e = (m, refl, cc, cc)

pub skipped : (p a many : ℕ) (x : NodeFacts) (xs : List NodeFacts) → ordinal_under p x.birth ≡ None → ordinals p (x ∷ xs) ≡ count_from a many → ordinals p xs ≡ count_from a many
skipped p a many x xs e is = sym (ordinals_skip p x xs e) ∙ is

pub taken : (p u a many : ℕ) (x : NodeFacts) (xs : List NodeFacts) → ordinal_under p x.birth ≡ Some u → ordinals p (x ∷ xs) ≡ count_from a many
    → (m : ℕ) × (many ≡ suc m) × (u ≡ a) × (ordinals p xs ≡ count_from (a + 1) m)
taken p u a many x xs e is = head_is u a many (ordinals p xs) (sym (ordinals_take p u x xs e) ∙ is)

-- a child among them has one of these ordinals, and stands once
pub among_them : (p : ℕ) (xs : List NodeFacts) (a many k o : ℕ) (y : NodeFacts) → ordinals p xs ≡ count_from a many → slice_get xs k ≡ Some y → ordinal_under p y.birth ≡ Some o
    → (a ≤ o) × (o < a + many)
among_them p [] a many k o y is read under = absurd (cc)
among_them p (x ∷ xs) a many k o y is read under = at k read (ordinal_under p x.birth) refl (λ j b m r there. among_them p xs b m j o y r there under) where
  at : (k : ℕ) → slice_get (x ∷ xs) k ≡ Some y → (ox : Option ℕ) → ordinal_under p x.birth ≡ ox
      → ((j b m : ℕ) → ordinals p xs ≡ count_from b m → slice_get xs j ≡ Some y → (b ≤ o) × (o < b + m)) → (a ≤ o) × (o < a + many)
  at zero read None e ih = absurd (let same : x ≡ y = same_Some x y read in let none : ordinal_under p y.birth ≡ None = subst (λ z. ordinal_under p z.birth ≡ None) same e in cc)
  at zero read (Some u) e ih =
      let (m, all, first, _) = taken p u a many x xs e is in
      let same : u ≡ o = same_Some u o (sym (subst (λ z. ordinal_under p z.birth ≡ Some u) (same_Some x y read) e) ∙ under) in
      (omega (arith, first, same), omega (arith, first, same, all))
  at (suc k) read None e ih = ih k a many (skipped p a many x xs e is) read
  at (suc k) read (Some u) e ih = let (m, all, _, rest) = taken p u a many x xs e is in let both = ih k (a + 1) m rest read in (omega (arith, both.0), omega (arith, both.1, all))

pub once : (p : ℕ) (xs : List NodeFacts) (a many o j k : ℕ) (x y : NodeFacts) → ordinals p xs ≡ count_from a many → slice_get xs j ≡ Some x → slice_get xs k ≡ Some y
    → ordinal_under p x.birth ≡ Some o → ordinal_under p y.birth ≡ Some o → j ≡ k
once p [] a many o j k x y is at_j at_k ux uy = absurd (cc)
once p (z ∷ xs) a many o zero zero x y is at_j at_k ux uy = refl
once p (z ∷ xs) a many o zero (suc k) x y is at_j at_k ux uy =
    let uz : ordinal_under p z.birth ≡ Some o = subst (λ w. ordinal_under p w.birth ≡ Some o) (sym (same_Some z x at_j)) ux in
    let (m, _, first, rest) = taken p o a many z xs uz is in
    absurd (omega (arith, first, (among_them p xs (a + 1) m k o y rest at_k uy).0))
once p (z ∷ xs) a many o (suc j) zero x y is at_j at_k ux uy =
    let uz : ordinal_under p z.birth ≡ Some o = subst (λ w. ordinal_under p w.birth ≡ Some o) (sym (same_Some z y at_k)) uy in
    let (m, _, first, rest) = taken p o a many z xs uz is in
    absurd (omega (arith, first, (among_them p xs (a + 1) m j o x rest at_j ux).0))
once p (z ∷ xs) a many o (suc j) (suc k) x y is at_j at_k ux uy = at (ordinal_under p z.birth) refl (λ b m r. once p xs b m o j k x y r at_j at_k ux uy) where
  at : (oz : Option ℕ) → ordinal_under p z.birth ≡ oz → ((b m : ℕ) → ordinals p xs ≡ count_from b m → j ≡ k) → suc j ≡ suc k
  at None e ih = ap suc (ih a many (skipped p a many z xs e is))
  at (Some u) e ih = let (m, _, _, rest) = taken p u a many z xs e is in ap suc (ih (a + 1) m rest)

-- a child's parent is there, before it
pub parent_of : (nodes : List NodeFacts) → IsTree nodes → (k : ℕ) (n : NodeFacts) (b : Birth) → slice_get nodes k ≡ Some n → n.birth ≡ Some b → b.parent < k
parent_of nodes tree zero n b here is =
    let (r, at, root) = there (λ x. (x.birth ≡ None) × (x.domain ≡ 0)) (slice_get nodes 0) tree.root in
    absurd (let same : n ≡ r = same_Some n r (sym here ∙ at) in let none : n.birth ≡ None = subst (λ z. z.birth ≡ None) (sym same) root.0 in cc)
parent_of nodes tree (suc k) n b here is =
    let (c, was, less) = there (λ (c : Birth). c.parent ≤ k) n.birth (tree.child k n here) in
    let same : c ≡ b = same_Some c b (sym was ∙ is) in
    omega (arith, subst (λ z. z.parent ≤ k) same less)

pub root_birth : (nodes : List NodeFacts) → IsTree nodes → (n : NodeFacts) → slice_get nodes 0 ≡ Some n → (n.birth ≡ None) × (n.domain ≡ 0)
root_birth nodes tree n here =
    let (r, at, root) = there (λ x. (x.birth ≡ None) × (x.domain ≡ 0)) (slice_get nodes 0) tree.root in
    subst (λ z. (z.birth ≡ None) × (z.domain ≡ 0)) (same_Some r n (sym at ∙ here)) root

-- a node has fewer children than there are nodes
count_long : (a m : ℕ) → length (count_from a m) ≡ m
count_long a zero = refl
count_long a (suc m) = ap suc (count_long (a + 1) m)

ordinals_few : (p : ℕ) (xs : List NodeFacts) → length (ordinals p xs) ≤ length xs
ordinals_few p [] = omega arith
ordinals_few p (x ∷ xs) = by (ordinal_under p x.birth) refl (ordinals_few p xs) where
  by : (o : Option ℕ) → ordinal_under p x.birth ≡ o → length (ordinals p xs) ≤ length xs → length (ordinals p (x ∷ xs)) ≤ suc (length xs)
  by None e ih = omega (arith, ih, ap length (ordinals_skip p x xs e))
  by (Some u) e ih = omega (arith, ih, ap length (ordinals_take p u x xs e))

pub small : (nodes : List NodeFacts) → IsTree nodes → (i : ℕ) (n : NodeFacts) → slice_get nodes i ≡ Some n → n.state.children < length nodes
small [] tree i n here = absurd (cc)
small (r ∷ rest) tree i n here =
    let root = root_birth (r ∷ rest) tree r refl in
    let skip : ordinals i (r ∷ rest) ≡ ordinals i rest = ordinals_skip i r rest (under_nobody i r.birth root.0) in
    omega (arith, ap length (tree.numbered i n here), count_long 0 n.state.children, ap length skip, ordinals_few i rest)
