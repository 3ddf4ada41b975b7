-- A shape is told by its labels in pre-order: a path's length says how deep its node is.
use Rattle.std.proofs.Common.{◌≡◌, ◌↔◌, ℕ, suc, ◌+◌, ◌++◌, ◌<◌, Bool, true, false, List, [], ◌∷◌, length, map, Option, Some, None, slice_get, refl, sym, ◌∙◌, ap, subst, arith, length-append, append_assoc, append-nil}
use Rattle.std.specs.List.{AllByRecursion}
use Rattle.std.proofs.lemmas.Option.{same_Some}
use Rattle.sysmem_tree.specs.declared.state.NodeKind.{NodeKind}
use Rattle.sysmem_tree.specs.declared.state.NodeKind.TheVariants as kinds
use Rattle.sysmem_tree.specs.Domain.{HasDomain}
use Rattle.sysmem_tree.specs.Forest.{Forest, Empty, Plain, Group}
use Rattle.sysmem_tree.specs.Laws.{labels, by_both}
use Rattle.sysmem_tree.specs.Layout.{is_group}
use Rattle.sysmem_tree.specs.Members.{shown_at}
use Rattle.sysmem_tree.specs.Node.{NodeFacts}
use Rattle.sysmem_tree.specs.Nodes.{IsTree}
use Rattle.sysmem_tree.specs.Path.{path_of}
use Rattle.sysmem_tree.specs.Shape.{Member, by_number, by_path, forest_of, kid_of, kids_from, before, rooted, shape_of, tree_of}
use Rattle.sysmem_tree.proofs.forests.Apart.{tree_labels}
use Rattle.sysmem_tree.proofs.forests.Labelled.{one_forest}
use Rattle.sysmem_tree.proofs.forests.Once.{Leads, is_shown, labels_lead, labels_relabel}
use Rattle.sysmem_tree.proofs.nodes.Places.{there}

-- the nodes of a forest have paths of this length, their children
-- of one more; and groups are groups
abbrev IsLevel : ℕ → Forest Member → Type 0
IsLevel n Empty = Unit {0}
IsLevel n (Plain m kids rest) = (length m.path ≡ n) × (is_group m.kind ≡ false) × IsLevel (suc n) kids × IsLevel n rest
IsLevel n (Group m kids rest) = (length m.path ≡ n) × (is_group m.kind ≡ true) × IsLevel (suc n) kids × IsLevel n rest

-- what comes behind it is further up
abbrev IsAbove : ℕ → List Member → Type 0
IsAbove n [] = Unit {0}
IsAbove n (m ∷ ms) = length m.path < n

behind_above : (n : ℕ) (d : Forest Member) (ms : List Member) → IsLevel n d → IsAbove n ms → IsAbove (suc n) (labels d ++ ms)
behind_above n Empty [] is up = tt
behind_above n Empty (m ∷ ms) is up = omega (arith, up)
behind_above n (Plain m kids rest) ms is up = omega (arith, is.0)
behind_above n (Group m kids rest) ms is up = omega (arith, is.0)

-- no forest of this level begins what is above it
not_above : (n : ℕ) (m x : Member) (xs : List Member) → length m.path ≡ n → IsAbove n (x ∷ xs) → x ≡ m → ⊥
not_above n m x xs is up same = let long = ap (λ (y : Member). length y.path) same in omega (arith, is, up, long)

-- equal labels are of equal forests
pub told : (n : ℕ) (d e : Forest Member) (xs ys : List Member) → IsLevel n d → IsLevel n e → IsAbove n xs → IsAbove n ys → labels d ++ xs ≡ labels e ++ ys → (d ≡ e) × (xs ≡ ys)
told n Empty Empty xs ys a b up up' same = (refl, same)
told n Empty (Plain m kids rest) [] ys a b up up' same = absurd (cc)
told n Empty (Plain m kids rest) (x ∷ xs) ys a b up up' same = absurd (not_above n m x xs b.0 up (cc))
told n Empty (Group m kids rest) [] ys a b up up' same = absurd (cc)
told n Empty (Group m kids rest) (x ∷ xs) ys a b up up' same = absurd (not_above n m x xs b.0 up (cc))
told n (Plain m kids rest) Empty xs [] a b up up' same = absurd (cc)
told n (Plain m kids rest) Empty xs (y ∷ ys) a b up up' same = absurd (not_above n m y ys a.0 up' (cc))
told n (Group m kids rest) Empty xs [] a b up up' same = absurd (cc)
told n (Group m kids rest) Empty xs (y ∷ ys) a b up up' same = absurd (not_above n m y ys a.0 up' (cc))
told n (Plain m kids rest) (Group m' kids' rest') xs ys a b up up' same =
    let head : m ≡ m' = cc in absurd (let no : false ≡ true = sym a.1 ∙ (ap (λ (x : Member). is_group x.kind) head ∙ b.1) in cc)
told n (Group m kids rest) (Plain m' kids' rest') xs ys a b up up' same =
    let head : m ≡ m' = cc in absurd (let no : true ≡ false = sym a.1 ∙ (ap (λ (x : Member). is_group x.kind) head ∙ b.1) in cc)
told n (Plain m kids rest) (Plain m' kids' rest') xs ys a b up up' same =
    let head : m ≡ m' = cc in
    let tail : (labels kids ++ labels rest) ++ xs ≡ (labels kids' ++ labels rest') ++ ys = cc in
    let below = told (suc n) kids kids' (labels rest ++ xs) (labels rest' ++ ys) a.2 b.2 (behind_above n rest xs a.3 up) (behind_above n rest' ys b.3 up')
    (sym (append_assoc (labels kids) (labels rest) xs) ∙ (tail ∙ append_assoc (labels kids') (labels rest') ys)) in
    let beside = told n rest rest' xs ys a.3 b.3 up up' below.1 in
    (ap (λ (x : Member). Plain x kids rest) head ∙ (ap (λ (k : Forest Member). Plain m' k rest) below.0 ∙ ap (λ (r : Forest Member). Plain m' kids' r) beside.0), beside.1)
told n (Group m kids rest) (Group m' kids' rest') xs ys a b up up' same =
    let head : m ≡ m' = cc in
    let tail : (labels kids ++ labels rest) ++ xs ≡ (labels kids' ++ labels rest') ++ ys = cc in
    let below = told (suc n) kids kids' (labels rest ++ xs) (labels rest' ++ ys) a.2 b.2 (behind_above n rest xs a.3 up) (behind_above n rest' ys b.3 up')
    (sym (append_assoc (labels kids) (labels rest) xs) ∙ (tail ∙ append_assoc (labels kids') (labels rest') ys)) in
    let beside = told n rest rest' xs ys a.3 b.3 up up' below.1 in
    (ap (λ (x : Member). Group x kids rest) head ∙ (ap (λ (k : Forest Member). Group m' k rest) below.0 ∙ ap (λ (r : Forest Member). Group m' kids' r) beside.0), beside.1)

-- the shapes of domains are such forests
tree_level : (n : ℕ) (k : NodeKind) (m : Member) (kids rest : Forest Member) → m.kind ≡ k → length m.path ≡ n → IsLevel (suc n) kids → IsLevel n rest → IsLevel n (tree_of k m kids rest)
tree_level n kinds.Token m kids rest is long a b = (long, ap is_group is, a, b)
tree_level n kinds.Group m kids rest is long a b = (long, ap is_group is, a, b)
tree_level n kinds.Collection m kids rest is long a b = (long, ap is_group is, a, b)

kids_level : (r i : ℕ) (nodes : List NodeFacts) (p n : ℕ) (path : List ℕ) → length path ≡ n → IsLevel (suc n) (kids_from by_path r i nodes p path)
kids_level r i [] p n path long = tt
kids_level r i (x ∷ nodes) p n path long = at (kid_of r p x) (kids_level r (i + 1) nodes) where
  at : (u : Option ℕ) → ((p n : ℕ) (path : List ℕ) → length path ≡ n → IsLevel (suc n) (kids_from by_path r (i + 1) nodes p path))
      → IsLevel (suc n) (before u (λ o. tree_of x.state.kind (by_path i (path ++ o ∷ []) x) (kids_from by_path r (i + 1) nodes i (path ++ o ∷ []))) (kids_from by_path r (i + 1) nodes p path))
  at None rest = rest p n path long
  at (Some o) rest =
      let longer : length (path ++ o ∷ []) ≡ suc n = omega (arith, length-append path (o ∷ []), long) in
      tree_level (suc n) x.state.kind (by_path i (path ++ o ∷ []) x) _ _ refl longer (rest i (suc n) (path ++ o ∷ []) longer) (rest p n path long)

shape_level : (nodes : List NodeFacts) (r : ℕ) → IsLevel (length (path_of nodes r)) (shape_of nodes r)
shape_level nodes r = by (slice_get nodes r) where
  by : (o : Option NodeFacts) → IsLevel (length (path_of nodes r)) (rooted by_path nodes r (path_of nodes r) o)
  by None = tt
  by (Some n) = tree_level (length (path_of nodes r)) n.state.kind (by_path r (path_of nodes r) n) _ Empty refl refl (kids_level r 0 nodes r (length (path_of nodes r)) (path_of nodes r) refl) tt

-- a domain's shape begins with its root
begins : (nodes : List NodeFacts) (r : ℕ) → HasDomain nodes r → (m : Member) × (ms : List Member) × (labels (shape_of nodes r) ≡ m ∷ ms) × (m.path ≡ path_of nodes r)
begins nodes r has =
    let (n, here, _) = there (λ (z : NodeFacts). z.domain ≡ r) (slice_get nodes r) has in
    (by_path r (path_of nodes r) n, _, ap (λ o. labels (rooted by_path nodes r (path_of nodes r) o)) here ∙ tree_labels n.state.kind (by_path r (path_of nodes r) n) (kids_from by_path r 0 nodes r (path_of nodes r)) Empty, refl)

same_path : (xs ys : List NodeFacts) (r s : ℕ) → HasDomain xs r → HasDomain ys s → labels (shape_of xs r) ≡ labels (shape_of ys s) → path_of xs r ≡ path_of ys s
same_path xs ys r s has has' same =
    let (m, ms, is, path) = begins xs r has in
    let (m', ms', is', path') = begins ys s has' in
    let both : m ∷ ms ≡ m' ∷ ms' = sym is ∙ (same ∙ is') in
    let head : m ≡ m' = cc in
    sym path ∙ (ap (λ (x : Member). x.path) head ∙ path')

same_labels : (xs ys : List NodeFacts) (r s : ℕ) → HasDomain xs r → HasDomain ys s → labels (shape_of xs r) ≡ labels (shape_of ys s) → shape_of xs r ≡ shape_of ys s
same_labels xs ys r s has has' same =
    let level = subst (λ (p : List ℕ). IsLevel (length p) (shape_of ys s)) (sym (same_path xs ys r s has has' same)) (shape_level ys s) in
    (told (length (path_of xs r)) (shape_of xs r) (shape_of ys s) [] [] (shape_level xs r) level tt tt (append-nil (labels (shape_of xs r)) ∙ (same ∙ sym (append-nil (labels (shape_of ys s)))))).0

-- what is shown of a domain's nodes is what its shape shows
all_shown : (nodes : List NodeFacts) → IsTree nodes → (r : ℕ) (ls : List (ℕ × Member)) → AllByRecursion (Leads nodes r) ls → map (shown_at nodes) (map (λ (l : ℕ × Member). l.0) ls) ≡ map (λ m. Some m) (map (λ (l : ℕ × Member). l.1) ls)
all_shown nodes tree r [] all = refl
all_shown nodes tree r (l ∷ ls) all =
    ap (λ o. o ∷ map (shown_at nodes) (map (λ (l : ℕ × Member). l.0) ls)) (is_shown nodes tree r l all.0) ∙ ap (λ os. Some l.1 ∷ os) (all_shown nodes tree r ls all.1)

shown_labels : (nodes : List NodeFacts) (r : ℕ) → IsTree nodes → HasDomain nodes r → map (shown_at nodes) (labels (forest_of by_number nodes r [])) ≡ map (λ m. Some m) (labels (shape_of nodes r))
shown_labels nodes r tree has =
    let both : Forest (ℕ × Member) = forest_of by_both nodes r (path_of nodes r) in
    let one = one_forest nodes r in
    ap (map (shown_at nodes)) (sym (ap labels one.numbers) ∙ labels_relabel (λ (l : ℕ × Member). l.0) both)
    ∙ (all_shown nodes tree r (labels both) (labels_lead nodes tree r has)
    ∙ ap (map (λ (m : Member). Some m)) (sym (labels_relabel (λ (l : ℕ × Member). l.1) both) ∙ ap labels one.members))

all_some : (xs ys : List Member) → map (λ m. Some m) xs ≡ map (λ m. Some m) ys → xs ≡ ys
all_some [] [] e = refl
all_some [] (y ∷ ys) e = absurd (cc)
all_some (x ∷ xs) [] e = absurd (cc)
all_some (x ∷ xs) (y ∷ ys) e =
    let head : Some x ≡ Some y = cc in
    let tail : map (λ m. Some m) xs ≡ map (λ m. Some m) ys = cc in
    ap (λ z. z ∷ xs) (same_Some x y head) ∙ ap (λ zs. y ∷ zs) (all_some xs ys tail)

-- domains are of one shape exactly where their nodes, in pre-order, show the same
pub same_shape : (xs ys : List NodeFacts) (r s : ℕ) → IsTree xs → IsTree ys → HasDomain xs r → HasDomain ys s
    → (map (shown_at xs) (labels (forest_of by_number xs r [])) ≡ map (shown_at ys) (labels (forest_of by_number ys s []))) ↔ (shape_of xs r ≡ shape_of ys s)
same_shape xs ys r s own other has has' =
    let a = shown_labels xs r own has in
    let b = shown_labels ys s other has' in (
      λ e. same_labels xs ys r s has has' (all_some (labels (shape_of xs r)) (labels (shape_of ys s)) (sym a ∙ (e ∙ b))),
      λ e. a ∙ (ap (λ d. map (λ (m : Member). Some m) (labels d)) e ∙ sym b),
    )
