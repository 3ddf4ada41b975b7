-- The nodes of a domain stand in its forest once, and its members in their order.
use Rattle.std.proofs.Common.{◌≡◌, ◌≢◌, ℕ, suc, ◌+◌, ◌++◌, ◌==◌, ◌&&◌, Bool, true, false, List, [], ◌∷◌, Option, Some, None, slice_get, refl, sym, ◌∙◌, ap, subst, arith, rules, tests, eq-eqb}
use Rattle.std.specs.Prelude.{◌||◌, All, AllPairs, IsSomeAnd, filter, map, option_map, unwrap_or, if◌then◌else◌}
use Rattle.std.specs.List.{AllByRecursion, list_any}
use Rattle.std.proofs.lemmas.Bool.{ne_eqb}
use Rattle.std.proofs.lemmas.List.{map-append}
use Rattle.std.proofs.lemmas.List.Kept.{AllPairs-cons}
use Rattle.std.proofs.lemmas.Option.{slice_get_within}
use Rattle.sysmem_tree.specs.Sublist.{IsSublist, ended, taken, left_out}
use Rattle.sysmem_tree.specs.Domain.{HasDomain}
use Rattle.sysmem_tree.specs.Forest.{Forest, Empty, Plain, Group, settled, relabel}
use Rattle.sysmem_tree.specs.Laws.{labels, by_both, IsSameDomain}
use Rattle.sysmem_tree.specs.Members.{AreItsNodes, shown_at}
use Rattle.sysmem_tree.specs.Node.{NodeFacts}
use Rattle.sysmem_tree.specs.Nodes.{IsTree, ordinal_under}
use Rattle.sysmem_tree.specs.Path.{node_at, path_of}
use Rattle.sysmem_tree.specs.Selection.{after, settled_by}
use Rattle.sysmem_tree.specs.Shape.{Member, by_number, by_path, forest_of, kid_of, kids_from, before, members_of, rooted, tree_of}
use Rattle.sysmem_tree.proofs.forests.Apart.{Apart, all_append, all_index, all_sub, less_after, settled_labels, shape_apart, sub_none, tree_labels}
use Rattle.sysmem_tree.proofs.nodes.Kids.{is_under}
use Rattle.sysmem_tree.proofs.forests.Labelled.{one_forest}
use Rattle.sysmem_tree.proofs.nodes.Places.{put, there}
use Rattle.sysmem_tree.proofs.selections.Selections.{all_mapped, sub_trans}
use Rattle.sysmem_tree.proofs.steps.Steps.{led_kid, path_is, path_leads}

-- other labels stand in the same order
pub labels_relabel : {A B : Type 0} (f : A → B) (d : Forest A) → labels (relabel f d) ≡ map f (labels d)
labels_relabel f Empty = refl
labels_relabel f (Plain n kids rest) = rw (labels_relabel f kids, labels_relabel f rest) (ap (λ xs. f n ∷ xs) (sym (map-append f (labels kids) (labels rest))))
labels_relabel f (Group n kids rest) = rw (labels_relabel f kids, labels_relabel f rest) (ap (λ xs. f n ∷ xs) (sym (map-append f (labels kids) (labels rest))))

-- a label's path leads to its node, which is in the domain and is what it shows
pub record Leads (nodes : List NodeFacts) (r : ℕ) (l : ℕ × Member) : Type 0 where
  leads : node_at nodes l.1.path ≡ Some l.0
  node : NodeFacts
  here : slice_get nodes l.0 ≡ Some node
  home : node.domain ≡ r
  shows : by_path l.0 l.1.path node ≡ l.1

-- a child in the domain is born there
kid_is : (r p o : ℕ) (n : NodeFacts) → kid_of r p n ≡ Some o → (n.domain ≡ r) × (n.birth ≡ Some (record { parent = p; ordinal = o }))
kid_is r p o n e = by (n.domain == r) refl e where
  by : (b : Bool) → (n.domain == r) ≡ b → (if b then ordinal_under p n.birth else None) ≡ Some o → (n.domain ≡ r) × (n.birth ≡ Some (record { parent = p; ordinal = o }))
  by true is e = (search (rules, tests, is), is_under p o n.birth e)
  by false is e = absurd (cc)

module _ (all : List NodeFacts) (tree : IsTree all) (r : ℕ) where
  -- the paths of children lead to them
  kids_lead : (i : ℕ) (nodes : List NodeFacts) → ((m : ℕ) (n : NodeFacts) → slice_get nodes m ≡ Some n → slice_get all (i + m) ≡ Some n)
      → (p : ℕ) (path : List ℕ) → node_at all path ≡ Some p → AllByRecursion (Leads all r) (labels (kids_from by_both r i nodes p path))
  kids_lead i [] front p path leads = tt
  kids_lead i (n ∷ nodes) front p path leads =
      at (kids_lead (i + 1) nodes (λ m x here. let shift : i + suc m ≡ (i + 1) + m = omega arith in subst (λ k. slice_get all k ≡ Some x) shift (front (suc m) x here)))
      (kid_of r p n) refl where
        zeroed : i + 0 ≡ i
        zeroed = omega arith

        at : ((p : ℕ) (path : List ℕ) → node_at all path ≡ Some p → AllByRecursion (Leads all r) (labels (kids_from by_both r (i + 1) nodes p path))) → (u : Option ℕ) → kid_of r p n ≡ u
            → AllByRecursion (Leads all r)
            (labels (before u (λ o. tree_of n.state.kind (by_both i (path ++ o ∷ []) n) (kids_from by_both r (i + 1) nodes i (path ++ o ∷ []))) (kids_from by_both r (i + 1) nodes p path)))
        at rest None is = rest p path leads
        at rest (Some o) is =
            let (home, born) = kid_is r p o n is in
            let here : slice_get all i ≡ Some n = subst (λ k. slice_get all k ≡ Some n) zeroed (front 0 n refl) in
            let on : node_at all (path ++ o ∷ []) ≡ Some i = led_kid all tree path p i n (record { parent = p; ordinal = o }) leads here born refl in
            let kids : Forest (ℕ × Member) = kids_from by_both r (i + 1) nodes i (path ++ o ∷ []) in
            let behind : Forest (ℕ × Member) = kids_from by_both r (i + 1) nodes p path in
            subst (AllByRecursion (Leads all r)) (sym (tree_labels n.state.kind (by_both i (path ++ o ∷ []) n) kids behind))
            (record { leads = on; node = n; here = here; home = home; shows = refl }, all_append (Leads all r) (labels kids) (labels behind) (rest i (path ++ o ∷ []) on) (rest p path leads))

  -- and so do those of a whole domain
  pub labels_lead : HasDomain all r → AllByRecursion (Leads all r) (labels (forest_of by_both all r (path_of all r)))
  labels_lead has =
      let (n, here, home) = there (λ (z : NodeFacts). z.domain ≡ r) (slice_get all r) has in
      let leads = path_leads all tree r (slice_get_within all r n here) in
      let kids : Forest (ℕ × Member) = kids_from by_both r 0 all r (path_of all r) in
      subst (λ o. AllByRecursion (Leads all r) (labels (rooted by_both all r (path_of all r) o))) (sym here)
      (subst (AllByRecursion (Leads all r)) (sym (tree_labels n.state.kind (by_both r (path_of all r) n) kids Empty))
      (record { leads = leads; node = n; here = here; home = home; shows = refl }, all_append (Leads all r) (labels kids) [] (kids_lead 0 all (λ m x at. let z : m ≡ 0 + m = omega arith in subst (λ k. slice_get all k ≡ Some x) z at) r (path_of all r) leads) tt))

  -- where paths differ, nodes do
  differ : (l : ℕ × Member) (ls : List (ℕ × Member)) → Leads all r l → AllByRecursion (Leads all r) ls → AllByRecursion (λ (x : Member). l.1.path ≢ x.path) (map (λ (m : ℕ × Member). m.1) ls)
      → AllByRecursion (λ y. l.0 ≢ y) (map (λ (m : ℕ × Member). m.0) ls)
  differ l [] own leads apart = tt
  differ l (m ∷ ls) own leads apart = (
    λ same. apart.0 (sym (path_is all tree l.1.path l.0 own.leads) ∙ (ap (path_of all) same ∙ path_is all tree m.1.path m.0 leads.0.leads)),
    differ l ls own leads.1 apart.1,
  )

-- no number is there twice
abbrev pub Once : List ℕ → Type 0
Once [] = Unit {0}
Once (x ∷ xs) = AllByRecursion (λ y. x ≢ y) xs × Once xs

numbers_once : (all : List NodeFacts) (tree : IsTree all) (r : ℕ) (ls : List (ℕ × Member)) → AllByRecursion (Leads all r) ls → Apart (map (λ (m : ℕ × Member). m.1) ls) → Once (map (λ (m : ℕ × Member). m.0) ls)
numbers_once all tree r [] leads apart = tt
numbers_once all tree r (l ∷ ls) leads apart = (differ all tree r l ls leads.0 leads.1 apart.0, numbers_once all tree r ls leads.1 apart.1)

-- each node of a domain stands in its forest once
pub labels_once : (nodes : List NodeFacts) (r : ℕ) → IsTree nodes → HasDomain nodes r → Once (labels (forest_of by_number nodes r []))
labels_once nodes r tree has =
    let one = one_forest nodes r in
    let both : Forest (ℕ × Member) = forest_of by_both nodes r (path_of nodes r) in
    subst Once (sym (labels_relabel (λ (l : ℕ × Member). l.0) both) ∙ ap labels one.numbers)
    (numbers_once nodes tree r (labels both) (labels_lead nodes tree r has) (subst Apart (sym (ap labels one.members) ∙ labels_relabel (λ (l : ℕ × Member). l.1) both) (shape_apart nodes r tree has)))

-- and is in it
labels_own : (nodes : List NodeFacts) (r : ℕ) → IsTree nodes → HasDomain nodes r → AllByRecursion (λ i. IsSomeAnd (slice_get nodes i) (λ n. n.domain ≡ r)) (labels (forest_of by_number nodes r []))
labels_own nodes r tree has =
    let both : Forest (ℕ × Member) = forest_of by_both nodes r (path_of nodes r) in
    subst (AllByRecursion (λ i. IsSomeAnd (slice_get nodes i) (λ n. n.domain ≡ r))) (sym (labels_relabel (λ (l : ℕ × Member). l.0) both) ∙ ap labels (one_forest nodes r).numbers)
    (all_mapped (Leads nodes r) (λ i. IsSomeAnd (slice_get nodes i) (λ n. n.domain ≡ r)) (λ (l : ℕ × Member). l.0) (labels both)
    (λ l h. put (λ (x : NodeFacts). x.domain ≡ r) (slice_get nodes l.0) h.node h.here h.home) (labels_lead nodes tree r has))

-- what choices settle stands in the order of the forest
pub settled_sub : (d : Forest ℕ) (cs : List ℕ) → IsSublist (unwrap_or (settled_by d cs) []) (labels d)
settled_sub d cs = by (after d cs) refl where
  by : (o : Option (Forest ℕ)) → after d cs ≡ o → IsSublist (unwrap_or (option_map settled o) []) (labels d)
  by None is = sub_none (labels d)
  by (Some e) is = sub_trans (settled e) (labels e) (labels d) (settled_labels e) (less_after d e cs is)

once_sub : (xs ys : List ℕ) → IsSublist xs ys → Once ys → Once xs
once_sub _ _ ended once = tt
once_sub _ _ (taken x xs ys p) once = (all_sub (λ y. x ≢ y) xs ys p once.0, once_sub xs ys p once.1)
once_sub _ _ (left_out x xs ys p) once = once_sub xs ys p once.1

once_pairs : (xs : List ℕ) → Once xs → AllPairs (λ i j. i ≢ j) xs
once_pairs [] once = λ i j d less within. absurd (omega (arith, within))
once_pairs (x ∷ xs) once = AllPairs-cons (λ i j. i ≢ j) x xs (all_index (λ y. x ≢ y) xs once.0) (once_pairs xs once.1)

pub members_stand_once : (nodes : List NodeFacts) (r : ℕ) (cs : List ℕ) → IsTree nodes → HasDomain nodes r → AreItsNodes nodes r (members_of nodes r cs)
members_stand_once nodes r cs tree has =
    let d : Forest ℕ = forest_of by_number nodes r [] in
    record {
      own = all_index (λ i. IsSomeAnd (slice_get nodes i) (λ n. n.domain ≡ r)) (members_of nodes r cs)
          (all_sub (λ i. IsSomeAnd (slice_get nodes i) (λ n. n.domain ≡ r)) (members_of nodes r cs) (labels d) (settled_sub d cs) (labels_own nodes r tree has));
      once = once_pairs (members_of nodes r cs) (once_sub (members_of nodes r cs) (labels d) (settled_sub d cs) (labels_once nodes r tree has));
    }

-- a label is what is shown of its node
pub is_shown : (nodes : List NodeFacts) → IsTree nodes → (r : ℕ) (l : ℕ × Member) → Leads nodes r l → shown_at nodes l.0 ≡ Some l.1
is_shown nodes tree r l h = ap (option_map (by_path l.0 (path_of nodes l.0))) h.here ∙ ap (λ m. Some m) (ap (λ path. by_path l.0 path h.node) (path_is nodes tree l.1.path l.0 h.leads) ∙ h.shows)

pub members_stay : (old new : List NodeFacts) (r : ℕ) (cs : List ℕ) → IsTree old → IsTree new → HasDomain old r → HasDomain new r → IsSameDomain old new r
    → All (λ i. shown_at new i ≡ shown_at old i) (members_of old r cs)
members_stay old new r cs tree tree' has has' same =
    let both : Forest (ℕ × Member) = forest_of by_both old r (path_of old r) in
    let later : AllByRecursion (Leads new r) (labels both) = subst (λ d. AllByRecursion (Leads new r) (labels d)) same.forest (labels_lead new tree' r has') in
    let numbers : labels (forest_of by_number old r []) ≡ map (λ (l : ℕ × Member). l.0) (labels both) = sym (ap labels (one_forest old r).numbers) ∙ labels_relabel (λ (l : ℕ × Member). l.0) both in
    all_index (λ i. shown_at new i ≡ shown_at old i) (members_of old r cs)
    (all_sub (λ i. shown_at new i ≡ shown_at old i) (members_of old r cs) (labels (forest_of by_number old r [])) (settled_sub (forest_of by_number old r []) cs)
    (subst (AllByRecursion (λ i. shown_at new i ≡ shown_at old i)) (sym numbers)
    (all_mapped (λ (l : ℕ × Member). Leads old r l × Leads new r l) (λ i. shown_at new i ≡ shown_at old i) (λ (l : ℕ × Member). l.0) (labels both)
    (λ l h. is_shown new tree' r l h.1 ∙ sym (is_shown old tree r l h.0)) (paired (labels both) (labels_lead old tree r has) later)))) where
      paired : (ls : List (ℕ × Member)) → AllByRecursion (Leads old r) ls → AllByRecursion (Leads new r) ls → AllByRecursion (λ (l : ℕ × Member). Leads old r l × Leads new r l) ls
      paired [] a b = tt
      paired (l ∷ ls) a b = ((a.0, b.0), paired ls a.1 b.1)

-- what isn't among numbers isn't found there
not_among : (x : ℕ) (xs : List ℕ) → AllByRecursion (λ y. x ≢ y) xs → list_any (λ m. m == x) xs ≡ false
not_among x [] apart = refl
not_among x (y ∷ ys) apart = ap (λ b. b || list_any (λ m. m == x) ys) (ne_eqb y x (λ e. apart.0 (sym e))) ∙ not_among x ys apart.1

-- filters by tests that agree
pub same_filter : (p q : ℕ → Bool) (xs : List ℕ) → AllByRecursion (λ x. p x ≡ q x) xs → filter p xs ≡ filter q xs
same_filter p q [] all = refl
same_filter p q (x ∷ xs) all = ap (λ b. if b then x ∷ filter p xs else filter p xs) all.0 ∙ ap (λ ys. if q x then x ∷ ys else ys) (same_filter p q xs all.1)

all_weaken : (P Q : ℕ → Type 0) (xs : List ℕ) → ((x : ℕ) → P x → Q x) → AllByRecursion P xs → AllByRecursion Q xs
all_weaken P Q [] h a = tt
all_weaken P Q (x ∷ xs) h a = (h x a.0, all_weaken P Q xs h a.1)

-- of a list without a repeat, those that stand in a part of it are the part
pub picked : (xs ys : List ℕ) → IsSublist xs ys → Once ys → filter (λ i. list_any (λ m. m == i) xs) ys ≡ xs
picked _ _ ended once = refl
picked _ _ (taken x xs ys p) once =
    ap (λ b. if b || list_any (λ m. m == x) xs then x ∷ filter (λ i. list_any (λ m. m == i) (x ∷ xs)) ys else filter (λ i. list_any (λ m. m == i) (x ∷ xs)) ys) (eq-eqb x x refl)
    ∙ ap (λ zs. x ∷ zs) (same_filter (λ i. list_any (λ m. m == i) (x ∷ xs)) (λ i. list_any (λ m. m == i) xs) ys
    (all_weaken (λ y. x ≢ y) (λ i. list_any (λ m. m == i) (x ∷ xs) ≡ list_any (λ m. m == i) xs) ys (λ y apart. ap (λ b. b || list_any (λ m. m == y) xs) (ne_eqb x y apart)) once.0) ∙ picked xs ys p once.1)
picked _ _ (left_out x xs ys p) once =
    ap (λ b. if b then x ∷ filter (λ i. list_any (λ m. m == i) xs) ys else filter (λ i. list_any (λ m. m == i) xs) ys) (not_among x xs (all_sub (λ y. x ≢ y) xs ys p once.0)) ∙ picked xs ys p once.1

-- one test after the other
pub filter_both : (p q : ℕ → Bool) (xs : List ℕ) → filter (λ i. p i && q i) xs ≡ filter q (filter p xs)
filter_both p q [] = refl
filter_both p q (x ∷ xs) = by (p x) (filter_both p q xs) where
  by : (b : Bool) → filter (λ i. p i && q i) xs ≡ filter q (filter p xs)
      → (if b && q x then x ∷ filter (λ i. p i && q i) xs else filter (λ i. p i && q i) xs) ≡ filter q (if b then x ∷ filter p xs else filter p xs)
  by true h = ap (λ ys. if q x then x ∷ ys else ys) h
  by false h = h

-- the members, by marks of them
pub members_picked : (nodes : List NodeFacts) (r : ℕ) (cs : List ℕ) → IsTree nodes → HasDomain nodes r
    → filter (λ i. list_any (λ m. m == i) (members_of nodes r cs)) (labels (forest_of by_number nodes r [])) ≡ members_of nodes r cs
members_picked nodes r cs tree has = picked (members_of nodes r cs) (labels (forest_of by_number nodes r [])) (settled_sub (forest_of by_number nodes r []) cs) (labels_once nodes r tree has)
