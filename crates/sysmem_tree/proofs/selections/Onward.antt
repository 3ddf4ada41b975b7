-- In a domain that is ready each group has a child, so each prefix leads on to a selection.
use Rattle.std.proofs.Common.{◌≡◌, ◌≤◌, ◌<◌, ℕ, zero, suc, ◌+◌, ◌-◌, ◌==◌, ◌++◌, Bool, true, false, not, ◌&&◌, List, [], ◌∷◌, Option, Some, None, length, drop, slice_get, refl, sym, ◌∙◌, ap, subst, arith, rules, tests, inl, inr}
use Rattle.std.specs.Prelude.{IsSome, is_some, option_and_then}
use Rattle.std.proofs.lemmas.Bool.{cases_Bool, cases_eq, cases_lt}
use Rattle.std.proofs.lemmas.List.{length-map}
use Rattle.std.proofs.lemmas.Option.{same_Some, slice_get_within, option_and_then_some}
use Rattle.std.specs.List.{AllByRecursion}
use Rattle.list_lemmas.proofs.CallerLemmas.{and_parts}
use Rattle.sysmem_tree.specs.declared.state.NodeKind.{NodeKind}
use Rattle.sysmem_tree.specs.declared.state.NodeKind.TheVariants as kinds
use Rattle.sysmem_tree.specs.declared.state.NodeState.{NodeState}
use Rattle.sysmem_tree.specs.Domain.{TreeFacts, HasDomain, is_complete, is_ready, IsSoundTree}
use Rattle.sysmem_tree.specs.Forest.{Forest, Empty, Plain, Group, each, kids_else_rest, choices}
use Rattle.sysmem_tree.specs.LayoutLaws.{LeadOn}
use Rattle.sysmem_tree.specs.Node.{NodeFacts, awaits, is_awaited}
use Rattle.sysmem_tree.specs.Nodes.{IsTree, AreProper, ordinal_under, ordinals, count_from}
use Rattle.sysmem_tree.specs.Selection.{after, IsPrefix, IsSelection}
use Rattle.sysmem_tree.specs.Shape.{by_number, forest_of, kid_of, tree_of}
use Rattle.sysmem_tree.proofs.selections.ChoiceLaws.{groups, one_fewer}
use Rattle.sysmem_tree.proofs.selections.Chosen.{chosen}
use Rattle.sysmem_tree.proofs.forests.Few.{forest_here}
use Rattle.sysmem_tree.proofs.nodes.Kids.{is_under, parent_of}
use Rattle.sysmem_tree.proofs.forests.Numbers.{numbers, numbers_kid, numbers_other, front}
use Rattle.sysmem_tree.proofs.nodes.Places.{there}
use Rattle.sysmem_tree.proofs.domains.Ready.{one_of_all}
use Rattle.sysmem_tree.proofs.forests.SameForest.{kid_elsewhere}
use Rattle.sysmem_tree.proofs.selections.Selections.{IfAny, all_mapped, all_at, after_more}

-- each group has a child
module _ {A : Type 0} where
  abbrev pub Fertile : Forest A → Type 0
  Fertile Empty = Unit {0}
  Fertile (Plain n kids rest) = Fertile kids × Fertile rest
  Fertile (Group n kids rest) = (0 < length (each kids)) × Fertile kids × Fertile rest

  fertile_each : (d : Forest A) → Fertile d → AllByRecursion Fertile (each d)
  fertile_each Empty f = tt
  fertile_each (Plain n kids rest) f = ((f.0, tt), fertile_each rest f.1)
  fertile_each (Group n kids rest) f = ((f.0, f.1, tt), fertile_each rest f.2)

  -- there are choices, and each leaves such a forest
  abbrev Fine : List (Forest A) → Type 0
  Fine es = (0 < length es) × AllByRecursion Fertile es

  fine_in : (n : A) (kids rest : Forest A) (ks rs : Option (List (Forest A))) → Fertile kids → Fertile rest → IfAny (Unit {0}) Fine ks → IfAny (Unit {0}) Fine rs
      → IfAny (Unit {0}) Fine (kids_else_rest (λ k. Plain n k rest) (λ r. Plain n kids r) ks rs)
  fine_in n kids rest (Some ks) rs fk fr hk hr =
      (omega (arith, hk.0, length-map ks (λ k. Plain n k rest)), all_mapped Fertile Fertile (λ k. Plain n k rest) ks (λ k p. (p, fr)) hk.1)
  fine_in n kids rest None (Some rs) fk fr hk hr =
      (omega (arith, hr.0, length-map rs (λ r. Plain n kids r)), all_mapped Fertile Fertile (λ r. Plain n kids r) rs (λ r p. (fk, p)) hr.1)
  fine_in n kids rest None None fk fr hk hr = tt

  fine : (d : Forest A) → Fertile d → IfAny (Unit {0}) Fine (choices d)
  fine Empty f = tt
  fine (Plain n kids rest) f = fine_in n kids rest (choices kids) (choices rest) f.0 f.1 (fine kids f.0) (fine rest f.1)
  fine (Group n kids rest) f =
      (omega (arith, f.0, length-map (each kids) (λ kid. Plain n kid rest)), all_mapped Fertile Fertile (λ kid. Plain n kid rest) (each kids) (λ kid p. (p, f.2)) (fertile_each kids f.1))

  fertile_chosen : (d e : Forest A) (c : ℕ) → Fertile d → chosen d c ≡ Some e → Fertile e
  fertile_chosen d e c f is = by (choices d) (fine d f) is where
    by : (o : Option (List (Forest A))) → IfAny (Unit {0}) Fine o → option_and_then (λ es. slice_get es c) o ≡ Some e → Fertile e
    by None all is' = absurd (cc)
    by (Some es) all is' = all_at Fertile es c e is' all.1

  fertile_after : (cs : List ℕ) (d e : Forest A) → Fertile d → after d cs ≡ Some e → Fertile e
  fertile_after [] d e f is = subst Fertile (same_Some d e is) f
  fertile_after (c ∷ cs) d e f is = option_and_then_some (λ x. after x cs) (chosen d c) e is (λ x one on. fertile_after cs x e (fertile_chosen d x c f one) on)

  -- so the first child can always be chosen, until no group is left
  abbrev Selects : Forest A → Type 0
  Selects d = (more : List ℕ) × ((e : Forest A) × IsSelection d more e)

  one_on : (d : Forest A) → Fertile d → ((x : Forest A) → suc (groups x) ≤ groups d → Fertile x → Selects x) → Selects d
  one_on d f ih = by (choices d) refl (fine d f) where
    by : (o : Option (List (Forest A))) → choices d ≡ o → IfAny (Unit {0}) Fine o → Selects d
    by None is h = ([], (d, record { leads = refl; whole = is }))
    by (Some es) is h =
        let (x, at, _) = front es 0 h.0 in
        let one : chosen d 0 ≡ Some x = ap (option_and_then (λ zs. slice_get zs 0)) is ∙ at in
        let (more, (e, s)) = ih x (one_fewer d x 0 one) (fertile_chosen d x 0 f one) in
        (0 ∷ more, (e, record { leads = ap (option_and_then (λ z. after z more)) one ∙ s.leads; whole = s.whole }))

  selects : (many : ℕ) (d : Forest A) → groups d ≤ many → Fertile d → Selects d
  selects zero d few f = one_on d f (λ x less fx. absurd (omega (arith, less, few)))
  selects (suc many) d few f = one_on d f (λ x less fx. selects many x (omega (arith, less, few)) fx)

  pub leads_on : (d : Forest A) (cs : List ℕ) → Fertile d → IsPrefix d cs → (more : List ℕ) × ((e : Forest A) × IsSelection d (cs ++ more) e)
  leads_on d cs f h = by (after d cs) refl h where
    by : (o : Option (Forest A)) → after d cs ≡ o → IsSome o → (more : List ℕ) × ((e : Forest A) × IsSelection d (cs ++ more) e)
    by None is h = absurd (cc)
    by (Some x) is h =
        let (more, (e, s)) = selects (groups x) x (omega arith) (fertile_after cs d x f is) in
        (more, (e, record { leads = after_more cs more d ∙ (ap (option_and_then (λ z. after z more)) is ∙ s.leads); whole = s.whole }))

-- a complete group has a child
group_done : (s : NodeState) → s.kind ≡ kinds.Group → is_awaited s ≡ false → s.is_complete ≡ true
group_done s kind done = not_false s.is_complete (sym (ap (λ k. awaits k s) kind) ∙ done) where
  not_false : (b : Bool) → not b ≡ false → b ≡ true
  not_false true e = refl
  not_false false e = absurd (cc)

-- who has an ordinal
first_kid : (p : ℕ) (xs : List NodeFacts) (many : ℕ) → ordinals p xs ≡ count_from 0 many → 0 < many → (k : ℕ) × ((x : NodeFacts) × ((u : ℕ) × (slice_get xs k ≡ Some x) × (ordinal_under p x.birth ≡ Some u)))
first_kid p xs zero is some = absurd (omega (arith, some))
first_kid p xs (suc many) is some = some_kid xs 0 (count_from 1 many) is where
  some_kid : (xs : List NodeFacts) (u : ℕ) (us : List ℕ) → ordinals p xs ≡ u ∷ us → (k : ℕ) × ((x : NodeFacts) × ((v : ℕ) × (slice_get xs k ≡ Some x) × (ordinal_under p x.birth ≡ Some v)))
  some_kid [] u us is = absurd (cc)
  some_kid (x ∷ xs) u us is = by (ordinal_under p x.birth) refl (λ e. some_kid xs u us e) where
    by : (o : Option ℕ) → ordinal_under p x.birth ≡ o → (ordinals p xs ≡ u ∷ us → (k : ℕ) × ((y : NodeFacts) × ((v : ℕ) × (slice_get xs k ≡ Some y) × (ordinal_under p y.birth ≡ Some v))))
        → (k : ℕ) × ((y : NodeFacts) × ((v : ℕ) × (slice_get (x ∷ xs) k ≡ Some y) × (ordinal_under p y.birth ≡ Some v)))
    by (Some v) e ih = (0, (x, (v, refl, e)))
    by None e ih =
        let skip : ordinals p (x ∷ xs) ≡ ordinals p xs = rw e refl in
        let (k, (y, (v, at, under))) = ih (sym skip ∙ is) in (suc k, (y, (v, at, under)))

each_tree : (k : NodeKind) (i : ℕ) (a b : Forest ℕ) → 0 < length (each (tree_of k i a b))
each_tree kinds.Token i a b = omega arith
each_tree kinds.Group i a b = omega arith
each_tree kinds.Collection i a b = omega arith

fertile_tree : (k : NodeKind) (i : ℕ) (a b : Forest ℕ) → (k ≡ kinds.Group → 0 < length (each a)) → Fertile a → Fertile b → Fertile (tree_of k i a b)
fertile_tree kinds.Token i a b some fa fb = (fa, fb)
fertile_tree kinds.Group i a b some fa fb = (some refl, fa, fb)
fertile_tree kinds.Collection i a b some fa fb = (fa, fb)

pub nothing_left : {X : Type 0} (xs : List X) (i : ℕ) → length xs ≤ i → drop i xs ≡ []
nothing_left [] zero less = refl
nothing_left [] (suc i) less = refl
nothing_left (x ∷ xs) zero less = absurd (omega (arith, less))
nothing_left (x ∷ xs) (suc i) less = nothing_left xs i (omega (arith, less))

module _ (nodes : List NodeFacts) (tree : IsTree nodes) (proper : AreProper nodes) (r : ℕ) (done : is_complete nodes r ≡ true) where
  abbrev below : ℕ → ℕ → Forest ℕ
  below i p = numbers r i (drop i nodes) p

  at_front : (i p : ℕ) (n : NodeFacts) → drop i nodes ≡ n ∷ drop (suc i) nodes → below i p ≡ numbers r i (n ∷ drop (i + 1) nodes) p
  at_front i p n is = let z : suc i ≡ i + 1 = omega arith in ap (λ xs. numbers r i xs p) (is ∙ ap (λ j. n ∷ drop j nodes) z)

  step_kid : (j p : ℕ) (y : NodeFacts) → drop j nodes ≡ y ∷ drop (suc j) nodes → (is_some (kid_of r p y) ≡ false → 0 < length (each (below (j + 1) p))) → 0 < length (each (below j p))
  step_kid j p y is later = elim (cases_Bool (is_some (kid_of r p y))) [
    | inl first ↦ subst (λ d. 0 < length (each d)) (sym (at_front j p y is ∙ numbers_kid r j p y (drop (j + 1) nodes) first)) (each_tree y.state.kind j (below (j + 1) j) (below (j + 1) p))
    | inr other ↦ subst (λ d. 0 < length (each d)) (sym (at_front j p y is ∙ numbers_other r j p y (drop (j + 1) nodes) other)) (later other)
  ]

  -- a child that comes later is one
  kid_later : (m j k p : ℕ) (x : NodeFacts) → k ≡ j + m → slice_get nodes k ≡ Some x → is_some (kid_of r p x) ≡ true → 0 < length (each (below j p))
  kid_later zero j k p x far here kid =
      let (y, at, is) = front nodes j (omega (arith, far, slice_get_within nodes k x here)) in
      let z : k ≡ j = omega (arith, far) in
      let same : y ≡ x = same_Some y x (sym at ∙ (ap (slice_get nodes) (sym z) ∙ here)) in
      step_kid j p y is (λ other. let is_kid : is_some (kid_of r p y) ≡ true = subst (λ w. is_some (kid_of r p w) ≡ true) (sym same) kid in absurd (cc))
  kid_later (suc m) j k p x far here kid =
      let (y, _, is) = front nodes j (omega (arith, far, slice_get_within nodes k x here)) in
      step_kid j p y is (λ other. kid_later m (j + 1) k p x (omega (arith, far)) here kid)

  not_both : (a b : Bool) → a ≡ true → not (a && b) ≡ true → b ≡ false
  not_both true true e f = absurd (cc)
  not_both true false e f = refl
  not_both false b e f = absurd (cc)

  group_kids : (i : ℕ) (n : NodeFacts) → slice_get nodes i ≡ Some n → n.domain ≡ r → n.state.kind ≡ kinds.Group → 0 < length (each (below (i + 1) i))
  group_kids i n here home kind =
      let t : (n.domain == r) ≡ true = search (rules, tests, home) in
      let waits = not_both (n.domain == r) (is_awaited n.state) t (one_of_all (λ (m : NodeFacts). not ((m.domain == r) && is_awaited m.state)) nodes i n done here) in
      let some = ((proper i n here).complete (group_done n.state kind waits)).1 in
      let (k, (x, (u, at, under))) = first_kid i nodes n.state.children (tree.numbered i n here) some in
      let birth = is_under i u x.birth under in
      let older = parent_of nodes tree k x (record { parent = i; ordinal = u }) at birth in
      let home' : x.domain ≡ r = elim (tree.placed k x n (record { parent = i; ordinal = u }) at birth here) [
        | inl as_parent ↦ as_parent ∙ home
        | inr root ↦ absurd (let other : kinds.Group ≡ kinds.Collection = sym kind ∙ root.1 in cc)
      ] in
      let t' : (x.domain == r) ≡ true = search (rules, tests, home') in
      let kid : is_some (kid_of r i x) ≡ true = rw (t', under) refl in
      kid_later (k - (i + 1)) (i + 1) k i x (omega (arith, older)) at kid

  kid_home : (p : ℕ) (y : NodeFacts) → is_some (kid_of r p y) ≡ true → y.domain ≡ r
  kid_home p y kid = elim (cases_eq y.domain r) [
    | inl home ↦ home
    | inr away ↦ absurd (let none : kid_of r p y ≡ None = kid_elsewhere r p y away in let e : false ≡ true = sym (ap is_some none) ∙ kid in cc)
  ]

  good : (many i p : ℕ) → length nodes ≤ i + many → Fertile (below i p)
  good zero i p few = subst Fertile (sym (ap (λ xs. numbers r i xs p) (nothing_left nodes i (omega (arith, few))))) tt
  good (suc many) i p few = elim (cases_lt i (length nodes)) [
    | inl less ↦
        let (y, at, is) = front nodes i less in
        elim (cases_Bool (is_some (kid_of r p y))) [
          | inl first ↦ subst Fertile (sym (at_front i p y is ∙ numbers_kid r i p y (drop (i + 1) nodes) first))
              (fertile_tree y.state.kind i (below (i + 1) i) (below (i + 1) p) (group_kids i y at (kid_home p y first)) (good many (i + 1) i (omega (arith, few))) (good many (i + 1) p (omega (arith, few))))
          | inr other ↦ subst Fertile (sym (at_front i p y is ∙ numbers_other r i p y (drop (i + 1) nodes) other)) (good many (i + 1) p (omega (arith, few)))
        ]
    | inr past ↦ subst Fertile (sym (ap (λ xs. numbers r i xs p) (nothing_left nodes i past))) tt
  ]

  pub fertile_domain : HasDomain nodes r → Fertile (forest_of by_number nodes r [])
  fertile_domain has =
      let (n, here, home) = there (λ (n : NodeFacts). n.domain ≡ r) (slice_get nodes r) has in
      subst Fertile (sym (forest_here nodes tree r n (slice_get_within nodes r n here) here))
      (fertile_tree n.state.kind r (below (r + 1) r) Empty (group_kids r n here home) (good (length nodes) (r + 1) r (omega arith)) tt)

pub prefixes_lead_on : (t : TreeFacts) (r : ℕ) (cs : List ℕ) → IsSoundTree t → HasDomain t.nodes r → is_ready t r ≡ true
    → IsPrefix (forest_of by_number t.nodes r []) cs → LeadOn (forest_of by_number t.nodes r []) cs
prefixes_lead_on t r cs sound has ready prefix =
    let fertile = fertile_domain t.nodes sound.tree sound.proper r (and_parts (is_complete t.nodes r) _ ready).0 has in
    let (more, (e, s)) = leads_on (forest_of by_number t.nodes r []) cs fertile prefix in
    record { more = more; left = e; selects = s }
