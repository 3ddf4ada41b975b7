-- Names stay names where a node is given one.
use Rattle.std.proofs.Common.{◌≡◌, ℕ, ◌==◌, ◌∷◌, ◌++◌, ◌&&◌, ◌||◌, [], List, Bool, true, false, not, cond, filter, bytes_eq, ap, refl, sym, ◌∙◌, subst, rules}
use Rattle.std.specs.List.{AllByRecursion}
use Rattle.std.proofs.lemmas.Bool.Decides.{eqb_tells}
use Rattle.std.proofs.lemmas.Slice.Eq.{bytes_eq-Decides}
use Rattle.node_names.specs.Names.{AreNames, Differ, NamedNode, is_name, is_taken, with_name}

abbrev fresh : ℕ → List ℕ → NamedNode
fresh k name = record { node = k; name = name }

-- a list without its first, or with it, and then the new one
abbrev step : Bool → NamedNode → List NamedNode → ℕ → List ℕ → List NamedNode
step b m ns k name = cond (not b) (m ∷ filter (λ x. not (x.node == k)) ns) (filter (λ x. not (x.node == k)) ns) ++ fresh k name ∷ []

differs_by : (b : Bool) (n m : NamedNode) (ns : List NamedNode) (k : ℕ) (name : List ℕ) → Differ n m → AllByRecursion (Differ n) (with_name ns k name) → AllByRecursion (Differ n) (step b m ns k name)
differs_by true n m ns k name d all = all
differs_by false n m ns k name d all = (d, all)

-- who differs from all and from the new one differs from all afterwards
differs_kept : (n : NamedNode) (ns : List NamedNode) (k : ℕ) (name : List ℕ) → AllByRecursion (Differ n) ns → Differ n (fresh k name) → AllByRecursion (Differ n) (with_name ns k name)
differs_kept n [] k name all d = (d, tt)
differs_kept n (m ∷ ns) k name all d = differs_by (m.node == k) n m ns k name all.0 (differs_kept n ns k name all.1 d)

not_same : (a k : ℕ) → (a == k) ≡ false → a ≡ k → ⊥
not_same a k off same = search rules

other_name : (a name : List ℕ) → bytes_eq a name ≡ false → a ≡ name → ⊥
other_name a name off same = search rules

right_false : (a b : Bool) → (a || b) ≡ false → b ≡ false
right_false true b is = cc
right_false false b is = is

left_false : (a b : Bool) → (a || b) ≡ false → a ≡ false
left_false true b is = is
left_false false b is = refl

names_by : (b : Bool) (n : NamedNode) (ns : List NamedNode) (k : ℕ) (name : List ℕ) → AreNames (n ∷ ns) → (b ≡ false → Differ n (fresh k name)) → AreNames (with_name ns k name)
    → AreNames (step b n ns k name)
names_by true n ns k name names differ after = after
names_by false n ns k name names differ after = (names.0, differs_kept n ns k name names.1 (differ refl), after)

differ_by : (b : Bool) (n : NamedNode) (ns : List NamedNode) (k : ℕ) (name : List ℕ) → (n.node == k) ≡ b → ((not b && bytes_eq n.name name) || is_taken ns k name) ≡ false → b ≡ false → Differ n (fresh k name)
differ_by true n ns k name at free off = absurd (cc off)
differ_by false n ns k name at free off = record { node = not_same n.node k at; name = other_name n.name name (left_false (bytes_eq n.name name) (is_taken ns k name) free) }

pub are_names : (ns : List NamedNode) (k : ℕ) (name : List ℕ) → AreNames ns → is_name name ≡ true → is_taken ns k name ≡ false → AreNames (with_name ns k name)
are_names [] k name names is free = (is, tt, tt)
are_names (n ∷ ns) k name names is free =
    names_by (n.node == k) n ns k name names (differ_by (n.node == k) n ns k name refl free)
    (are_names ns k name names.2 is (right_false (not (n.node == k) && bytes_eq n.name name) (is_taken ns k name) free))
