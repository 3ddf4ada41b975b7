-- Paths, step by step.
use Rattle.std.proofs.Common.{◌≡◌, ℕ, zero, suc, ◌≤◌, ◌<◌, ◌==◌, ◌&&◌, Bool, true, false, List, [], ◌∷◌, ◌++◌, length, get_or, Option, Some, None, slice_get, refl, sym, ◌∙◌, ap, subst, arith, rules, tests, append_assoc, nat_lt}
use Rattle.std.specs.Prelude.{position, reverse}
use Rattle.std.specs.List.{position_or_len}
use Rattle.std.proofs.lemmas.List.{append-nil, reverse-append, reverse-reverse}
use Rattle.std.proofs.lemmas.List.Quantifiers.{position-Some}
use Rattle.std.proofs.lemmas.List.Sums.{position_or_len_is}
use Rattle.std.proofs.lemmas.Option.{slice_get-get_or, get_or_from_slice_get, slice_get_within, same_Some, option_and_then_some}
use Rattle.list_lemmas.proofs.CallerLemmas.{slice_get_some}
use Rattle.sysmem_tree.specs.declared.node.Birth.{Birth}
use Rattle.sysmem_tree.specs.Node.{NodeFacts}
use Rattle.sysmem_tree.specs.Nodes.{IsTree}
use Rattle.sysmem_tree.specs.Path.{is_born, child_of, led_to, node_at}
use Rattle.sysmem_tree.proofs.nodes.Kids.{Distinct, once, under_parent, parent_of, root_birth}
use Rattle.sysmem_tree.proofs.nodes.Places.{there}

abbrev is_child : ℕ → ℕ → NodeFacts → Bool
is_child parent ordinal n = is_born parent ordinal n.birth

pub eq-nat : (a b : ℕ) → (a == b) ≡ true → a ≡ b
eq-nat a b h = search (rules, tests)

eq-self : (a : ℕ) → (a == a) ≡ true
eq-self a = search (rules, tests)

both : (a b : Bool) → (a && b) ≡ true → (a ≡ true) × (b ≡ true)
both true true h = (refl, refl)
both true false h = absurd (cc)
both false b h = absurd (cc)

-- what passes as a child of this birth has it
born_so : (parent ordinal : ℕ) (o : Option Birth) → is_born parent ordinal o ≡ true → o ≡ Some (record { parent = parent; ordinal = ordinal })
born_so parent ordinal None h = absurd (cc)
born_so parent ordinal (Some b) h =
    let (p, q) = both (b.parent == parent) (b.ordinal == ordinal) h in
    rw (sym (eq-nat b.parent parent p), sym (eq-nat b.ordinal ordinal q)) refl

-- and what has it passes
so_born : (b : Birth) (o : Option Birth) → o ≡ Some b → is_born b.parent b.ordinal o ≡ true
so_born b o is = rw (is, eq-self b.parent, eq-self b.ordinal) refl

position_is : {X : Type 0} (p : X → Bool) (xs : List X) (k : ℕ) (x : X) → slice_get xs k ≡ Some x → p x ≡ true → ((j : ℕ) → j < k → p (get_or xs j x) ≡ false) → position p xs ≡ Some k
position_is p xs k x here passes first =
    let within = slice_get_within xs k x here in
    let at : position_or_len p xs ≡ k = position_or_len_is p xs k x (omega (arith, within)) first (λ _. rw (get_or_from_slice_get xs k x x here) passes) in
    let less : nat_lt k (length xs) ≡ true = search (rules, tests, within) in
    rw (at, less) refl

-- a child is found by its birth
pub child_found : (nodes : List NodeFacts) (k : ℕ) (n : NodeFacts) (b : Birth) → Distinct nodes → slice_get nodes k ≡ Some n → n.birth ≡ Some b
    → child_of nodes b.parent b.ordinal ≡ Some k
child_found nodes k n b distinct here is =
    position_is (is_child b.parent b.ordinal) nodes k n here (so_born b n.birth is) (λ j below. not_before j below _ refl) where
      not_before : (j : ℕ) → j < k → (t : Bool) → is_child b.parent b.ordinal (get_or nodes j n) ≡ t → is_child b.parent b.ordinal (get_or nodes j n) ≡ false
      not_before j below false e = e
      not_before j below true e =
          let within = slice_get_within nodes k n here in
          let at : slice_get nodes j ≡ Some (get_or nodes j n) = slice_get-get_or nodes j n (omega (arith, below, within)) in
          let birth = born_so b.parent b.ordinal ((get_or nodes j n).birth) e in
          let same : j ≡ k = distinct j k (get_or nodes j n) n at here (birth ∙ sym is) in
          absurd (omega (arith, same, below))

-- a node that is nobody's child is the root
pub root_alone : (nodes : List NodeFacts) (k : ℕ) (n : NodeFacts) → IsTree nodes → slice_get nodes k ≡ Some n → n.birth ≡ None → k ≡ 0
root_alone nodes zero n tree here none = refl
root_alone nodes (suc k) n tree here none = let (b, is, _) = there (λ (b : Birth). b.parent ≤ k) n.birth (tree.child k n here) in absurd (cc)

-- in a tree they are distinct
pub distinct : (nodes : List NodeFacts) → IsTree nodes → Distinct nodes
distinct nodes tree j k m n at_j at_k same = at m.birth refl where
  at : (o : Option Birth) → m.birth ≡ o → j ≡ k
  at None e = root_alone nodes j m tree at_j e ∙ sym (root_alone nodes k n tree at_k (sym same ∙ e))
  at (Some b) e =
      let up = parent_of nodes tree j m b at_j e in
      let (p, here) = slice_get_some nodes b.parent (omega (arith, up, slice_get_within nodes j m at_j)) in
      once b.parent nodes 0 p.state.children b.ordinal j k m n (tree.numbered b.parent p here) at_j at_k (under_parent b m.birth e) (under_parent b n.birth (sym same ∙ e))

-- a node that was born as this child is the child
pub found_at : (nodes : List NodeFacts) (i parent ordinal : ℕ) (n : NodeFacts) → IsTree nodes → slice_get nodes i ≡ Some n → is_born parent ordinal n.birth ≡ true
    → child_of nodes parent ordinal ≡ Some i
found_at nodes i parent ordinal n tree here is =
    child_found nodes i n (record { parent = parent; ordinal = ordinal }) (distinct nodes tree) here (born_so parent ordinal n.birth is)

-- the ordinals, the last one first, lead up from a node to the root
abbrev Up : List NodeFacts → ℕ → List ℕ → Type 0
Up nodes k [] = k ≡ 0
Up nodes k (o ∷ way) = (i : ℕ) × (child_of nodes i o ≡ Some k) × Up nodes i way

-- turned round, the first comes last
turned : (o : ℕ) (path way : List ℕ) → reverse path ++ o ∷ way ≡ reverse (o ∷ path) ++ way
turned o path way = sym (ap (λ xs. xs ++ way) (reverse-append (o ∷ []) path) ∙ append_assoc (reverse path) (o ∷ []) way)

up : (nodes : List NodeFacts) (path way : List ℕ) (i k : ℕ) → Up nodes i way → led_to nodes i path ≡ Some k → Up nodes k (reverse path ++ way)
up nodes [] way i k so leads = subst (λ j. Up nodes j way) (same_Some i k leads) so
up nodes (o ∷ path) way i k so leads =
    option_and_then_some (λ c. led_to nodes c path) (child_of nodes i o) k leads
    (λ c is on. subst (Up nodes k) (turned o path way) (up nodes path (o ∷ way) c k (i, is, so) on))

-- a child's birth is the one by which it was found
pub child_born : (nodes : List NodeFacts) (i o k : ℕ) → child_of nodes i o ≡ Some k → (n : NodeFacts) × (slice_get nodes k ≡ Some n) × (n.birth ≡ Some (record { parent = i; ordinal = o }))
child_born [] i o k found = absurd (cc)
child_born (d ∷ nodes) i o k found =
    let (within, passes, _) = position-Some (is_child i o) (d ∷ nodes) k d found in
    (get_or (d ∷ nodes) k d, slice_get-get_or (d ∷ nodes) k d within, born_so i o ((get_or (d ∷ nodes) k d).birth) passes)

one_way : (nodes : List NodeFacts) → IsTree nodes → (p q : List ℕ) (k : ℕ) → Up nodes k p → Up nodes k q → p ≡ q
one_way nodes tree [] [] k a b = refl
one_way nodes tree [] (o ∷ q) k a (i, found, b) =
    let (n, here, is) = child_born nodes i o k found in
    let root = root_birth nodes tree n (sym (ap (slice_get nodes) a) ∙ here) in absurd (cc (is, root.0))
one_way nodes tree (o ∷ p) [] k (i, found, a) b =
    let (n, here, is) = child_born nodes i o k found in
    let root = root_birth nodes tree n (sym (ap (slice_get nodes) b) ∙ here) in absurd (cc (is, root.0))
one_way nodes tree (o ∷ p) (u ∷ q) k (i, found, a) (j, gained, b) =
    let (n, here, is) = child_born nodes i o k found in
    let (m, there', was) = child_born nodes j u k gained in
    let same : n ≡ m = same_Some n m (sym here ∙ there') in
    let birth : ◌≡◌ {A = Birth} (record { parent = i; ordinal = o }) (record { parent = j; ordinal = u }) =
    same_Some _ _ (sym is ∙ (ap (λ (x : NodeFacts). x.birth) same ∙ was)) in
    let parents : i ≡ j = ap (λ (x : Birth). x.parent) birth in
    let ordinals : o ≡ u = ap (λ (x : Birth). x.ordinal) birth in
    rw (ordinals, one_way nodes tree p q j (subst (λ x. Up nodes x p) parents a) b) refl

-- no two paths lead to one node
pub one_path : (nodes : List NodeFacts) (p q : List ℕ) (i : ℕ) → IsTree nodes → node_at nodes p ≡ Some i → node_at nodes q ≡ Some i → p ≡ q
one_path nodes p q i tree a b =
    let same = one_way nodes tree (reverse p ++ []) (reverse q ++ []) i (up nodes p [] 0 i refl a) (up nodes q [] 0 i refl b) in
    sym (reverse-reverse p) ∙ (ap reverse (sym (append-nil (reverse p)) ∙ (same ∙ append-nil (reverse q))) ∙ reverse-reverse q)
