-- Walks over a layout: to a child of a group, and by the choices of a prefix.
use Rattle.std.proofs.Common.{◌≡◌, ◌≤◌, ◌<◌, ℕ, zero, suc, ◌+◌, ◌++◌, Bool, true, false, List, [], ◌∷◌, Option, Some, None, length, drop, get_or, slice_get, refl, sym, ◌∙◌, ap, subst, arith}
use Rattle.std.specs.Prelude.{◌||◌, option_and_then, IsSome, IfSome, IsSomeAnd}
use Rattle.std.specs.List.{list_any}
use Rattle.std.specs.Option.{option_or}
use Rattle.std.proofs.lemmas.List.Folds.{list_any-append}
use Rattle.std.proofs.lemmas.Option.{same_Some, get_or_from_slice_get}
use Rattle.sysmem_tree.specs.declared.layout.Layout.{Layout}
use Rattle.sysmem_tree.specs.declared.layout.LayoutPlace.{LayoutPlace}
use Rattle.sysmem_tree.specs.Forest.{Forest, Empty, Plain, Group, each, settled}
use Rattle.sysmem_tree.specs.Layout.{Spot, start, first_place, AreLaid, IsLayout}
use Rattle.sysmem_tree.specs.Prefix.{Alternatives, AreAlternatives, next_alternatives, AreOpen}
use Rattle.sysmem_tree.specs.Selection.{after}
use Rattle.sysmem_tree.proofs.selections.Chosen.{chosen, Steps, steps}
use Rattle.sysmem_tree.proofs.layouts.Layouts.{starts_before}

-- from one alternative to the next
pub step_over : (ps : List LayoutPlace) (at m : ℕ) (d : LayoutPlace) (ks : Forest Spot) → AreAlternatives ps at ks → suc m < length (each ks)
    → (rest : Forest Spot) × AreAlternatives ps (get_or ps at d).end rest × (m < length (each rest)) × (slice_get (each rest) m ≡ slice_get (each ks) (suc m))
step_over ps at m d Empty a less = absurd (omega (arith, less))
step_over ps at m d (Plain s kk rest) a less =
    let here = get_or_from_slice_get ps at _ d (ap (slice_get ps) (sym a.starts) ∙ a.laid.0.here) in
    (rest, subst (λ (p : LayoutPlace). AreAlternatives ps p.end rest) (sym here) (record { to = a.to; next = a.next; small = a.small; starts = refl; laid = a.laid.2 }), omega (arith, less), refl)
step_over ps at m d (Group s kk rest) a less =
    let here = get_or_from_slice_get ps at _ d (ap (slice_get ps) (sym a.starts) ∙ a.laid.0.here) in
    (rest, subst (λ (p : LayoutPlace). AreAlternatives ps p.end rest) (sym here) (record { to = a.to; next = a.next; small = a.small; starts = refl; laid = a.laid.2 }), omega (arith, less), refl)

pub first_stands : (ps : List LayoutPlace) (at : ℕ) (ks kid : Forest Spot) → AreAlternatives ps at ks → slice_get (each ks) 0 ≡ Some kid → start kid 0 ≡ at
first_stands ps at Empty kid a e = absurd (cc)
first_stands ps at (Plain s kk rest) kid a e = ap (λ x. start x 0) (sym (same_Some (Plain s kk Empty) kid e)) ∙ a.starts
first_stands ps at (Group s kk rest) kid a e = ap (λ x. start x 0) (sym (same_Some (Group s kk Empty) kid e)) ∙ a.starts

pub first_within : (ps : List LayoutPlace) (at : ℕ) (ks : Forest Spot) → AreAlternatives ps at ks → 0 < length (each ks) → at < 128
first_within ps at Empty a less = absurd (omega (arith, less))
first_within ps at (Plain s kk rest) a less =
    let x = starts_before false ps kk (start rest a.to) a.next a.laid.1 in
    let y = starts_before true ps rest a.to a.next a.laid.2 in omega (arith, x, y, a.laid.0.kids_here, a.starts, a.small)
first_within ps at (Group s kk rest) a less =
    let x = starts_before true ps kk (start rest a.to) a.next a.laid.1 in
    let y = starts_before true ps rest a.to a.next a.laid.2 in omega (arith, x, y, a.laid.0.kids_here, a.starts, a.small)

-- the place of the first group is that of the next alternatives
either_place : (a b : Option (Alternatives Spot)) (m n : Option ℕ) → ((g : Alternatives Spot) → a ≡ Some g → m ≡ Some g.group.place) → (a ≡ None → m ≡ None)
    → ((g : Alternatives Spot) → b ≡ Some g → n ≡ Some g.group.place) → (g : Alternatives Spot) → option_or a b ≡ Some g → option_or m n ≡ Some g.group.place
either_place None b m n some none other g e = ap (λ o. option_or o n) (none refl) ∙ other g e
either_place (Some x) b m n some none other g e = ap (λ o. option_or o n) (some x refl) ∙ ap (λ (y : Alternatives Spot). Some y.group.place) (same_Some x g e)

neither : (a b : Option (Alternatives Spot)) (m n : Option ℕ) → (a ≡ None → m ≡ None) → (b ≡ None → n ≡ None) → option_or a b ≡ None → option_or m n ≡ None
neither None b m n k r e = ap (λ o. option_or o n) (k refl) ∙ r e
neither (Some x) b m n k r e = absurd (cc)

pub no_first : (e : Forest Spot) → next_alternatives e ≡ None → first_place e ≡ None
no_first Empty e = refl
no_first (Plain s kids rest) e = neither (next_alternatives kids) (next_alternatives rest) (first_place kids) (first_place rest) (no_first kids) (no_first rest) e
no_first (Group s kids rest) e = absurd (cc)

pub first_is : (e : Forest Spot) (g : Alternatives Spot) → next_alternatives e ≡ Some g → first_place e ≡ Some g.group.place
first_is Empty g e = absurd (cc)
first_is (Plain s kids rest) g e = either_place (next_alternatives kids) (next_alternatives rest) (first_place kids) (first_place rest) (first_is kids) (no_first kids) (first_is rest) g e
first_is (Group s kids rest) g e = ap (λ (y : Alternatives Spot). Some y.group.place) (same_Some (record { group = s; kids = kids }) g e)

-- the next group stands in the layout, its alternatives just behind it
pub record Stands (ps : List LayoutPlace) (g : Alternatives Spot) : Type 0 where
  pub alternatives : AreAlternatives ps (g.group.place + 1) g.kids
  pub entry : IsSomeAnd (slice_get ps g.group.place) (λ (p : LayoutPlace). (p.node ≡ g.group.node) × (p.children ≡ length (each g.kids)))

or_both : (P : Alternatives Spot → Type 0) (a b : Option (Alternatives Spot)) → IfSome a P → IfSome b P → IfSome (option_or a b) P
or_both P None b p q = q
or_both P (Some x) b p q = p

pub stands : (ps : List LayoutPlace) (e : Forest Spot) (next : Option ℕ) → AreOpen ps e next → IfSome (next_alternatives e) (Stands ps)
stands ps Empty next o = tt
stands ps (Plain s kids rest) next o = or_both (Stands ps) (next_alternatives kids) (next_alternatives rest) (stands ps kids (option_or (first_place rest) next) o.0) (stands ps rest next o.1)
stands ps (Group s kids rest) next o =
    let (to, small, here, laid) = o.0 in
    record {
      alternatives = record { to = to; next = option_or (first_place rest) next; small = small; starts = here.kids_here; laid = laid };
      entry = subst (λ o. IsSomeAnd o (λ (p : LayoutPlace). (p.node ≡ s.node) × (p.children ≡ length (each kids)))) (sym here.here) (refl, refl);
    }

-- one choice further
pub walk_on : (ps : List LayoutPlace) (e : Forest Spot) (c : ℕ) (rest : List ℕ) → AreOpen ps e None → IsSome (after e (c ∷ rest)) → (f : Forest Spot) × (after e (c ∷ rest) ≡ after f rest) × Steps ps e None c f
walk_on ps e c rest o some = by (chosen e c) refl some where
  by : (x : Option (Forest Spot)) → chosen e c ≡ x → IsSome (option_and_then (λ f. after f rest) x) → (f : Forest Spot) × (after e (c ∷ rest) ≡ after f rest) × Steps ps e None c f
  by None is h = absurd (cc)
  by (Some f) is h = (f, ap (option_and_then (λ f. after f rest)) is, steps ps e None c f o is)

-- the walk begins with the first group
or_none : (a b : Option ℕ) → option_or a (option_or b None) ≡ option_or a b
or_none None None = refl
or_none None (Some y) = refl
or_none (Some x) b = refl

pub begins : (layout : Layout) (d : Forest ℕ) (p : LayoutPlace) (laid : IsLayout layout d) → (get_or layout.places layout.start p).next ≡ first_place laid.spots
begins layout d p laid = by laid.spots laid.starts laid.laid where
  by : (w : Forest Spot) → start w 128 ≡ layout.start → AreLaid false layout.places w 128 None → (get_or layout.places layout.start p).next ≡ first_place w
  by Empty s l = absurd (omega (arith, s, laid.within))
  by (Plain x kids rest) s l = ap (λ (q : LayoutPlace). q.next) (get_or_from_slice_get layout.places layout.start _ p (ap (slice_get layout.places) (sym s) ∙ l.0.here)) ∙ or_none (first_place kids) (first_place rest)
  by (Group x kids rest) s l = ap (λ (q : LayoutPlace). q.next) (get_or_from_slice_get layout.places layout.start _ p (ap (slice_get layout.places) (sym s) ∙ l.0.here))

-- what the next choice leads to, where the group at `at` is next
pub record OnChoice (ps : List LayoutPlace) (w e : Forest Spot) (cs rest : List ℕ) (c at : ℕ) : Type 0 where
  pub kids : Forest Spot
  pub alternatives : AreAlternatives ps (at + 1) kids
  pub kid : Forest Spot
  pub is_kid : slice_get (each kids) c ≡ Some kid
  pub left : Forest Spot
  pub goes : after w cs ≡ after left rest
  pub open_left : AreOpen ps left None
  pub next : IsSomeAnd (slice_get ps (start kid 0)) (λ (p : LayoutPlace). p.next ≡ option_or (first_place left) None)
  pub adds : (test : Spot → Bool) → list_any test (settled left) ≡ (list_any test (settled e) || list_any test (settled kid))

or_last : (a b c : Bool) → (a || (b || c)) ≡ ((a || c) || b)
or_last true b c = refl
or_last false true true = refl
or_last false true false = refl
or_last false false c = or_false c where
  or_false : (c : Bool) → c ≡ (c || false)
  or_false true = refl
  or_false false = refl

-- a choice settles what it chose, and nothing else
settles_kid : (ps : List LayoutPlace) (d : Forest Spot) (next : Option ℕ) (c : ℕ) (e : Forest Spot) (st : Steps ps d next c e) (test : Spot → Bool)
    → list_any test (settled e) ≡ (list_any test (settled d) || list_any test (settled st.kid))
settles_kid ps d next c e st test =
    ap (list_any test) st.settled_after
    ∙ (list_any-append test st.front (settled st.kid ++ st.back)
    ∙ (ap (λ b. list_any test st.front || b) (list_any-append test (settled st.kid) st.back)
    ∙ (or_last (list_any test st.front) (list_any test (settled st.kid)) (list_any test st.back)
    ∙ (ap (λ b. b || list_any test (settled st.kid)) (sym (ap (list_any test) st.settled_before ∙ list_any-append test st.front st.back))))))

-- a prefix has choices left only where a group is
pub on_choice : (ps : List LayoutPlace) (w e : Forest Spot) (cs rest : List ℕ) (c : ℕ) (group : Option ℕ) → IsSome (after w cs) → after w cs ≡ after e (c ∷ rest) → AreOpen ps e None → group ≡ first_place e
    → (at : ℕ) × (group ≡ Some at) × OnChoice ps w e cs rest c at
on_choice ps w e cs rest c group some goes o is =
    let (f, on, st) = walk_on ps e c rest o (subst IsSome goes some) in
    let stand : Stands ps st.first = subst (λ x. IfSome x (Stands ps)) st.is_first (stands ps e None o) in (
      st.first.group.place,
      is ∙ first_is e st.first st.is_first,
      record {
        kids = st.first.kids;
        alternatives = stand.alternatives;
        kid = st.kid;
        is_kid = st.is_kid;
        left = f;
        goes = goes ∙ on;
        open_left = st.open_after;
        next = st.goes_on_after;
        adds = settles_kid ps e None c f st;
      },
    )

drop_end : {X : Type 0} (xs : List X) (i : ℕ) → length xs ≤ i → drop i xs ≡ []
drop_end [] zero less = refl
drop_end [] (suc i) less = refl
drop_end (x ∷ xs) zero less = absurd (omega (arith, less))
drop_end (x ∷ xs) (suc i) less = drop_end xs i (omega (arith, less))

-- what holds at the end of the walk
pub at_end_of : (w e : Forest Spot) (cs : List ℕ) (i : ℕ) (P : Forest Spot → Type 0) → length cs ≤ i → after w cs ≡ after e (drop i cs) → P e → IfSome (after w cs) P
at_end_of w e cs i P less goes h = subst (λ x. IfSome x P) (sym (goes ∙ ap (after e) (drop_end cs i less))) h

pub at_end : (ps : List LayoutPlace) (w e : Forest Spot) (cs : List ℕ) (i : ℕ) (group : Option ℕ) → length cs ≤ i → after w cs ≡ after e (drop i cs) → AreOpen ps e None → group ≡ first_place e
    → IfSome (after w cs) (λ x. (group ≡ first_place x) × AreOpen ps x None)
at_end ps w e cs i group less goes o is = at_end_of w e cs i (λ x. (group ≡ first_place x) × AreOpen ps x None) less goes (is, o)

pub if_some : {X : Type 0} (o : Option X) (P : X → Type 0) → (IsSome o → IfSome o P) → IfSome o P
if_some None P h = tt
if_some (Some x) P h = h refl

or_nothing : (n : Option ℕ) → option_or n None ≡ n
or_nothing None = refl
or_nothing (Some x) = refl

-- the entry at a place that is there
pub next_there : (ps : List LayoutPlace) (i : ℕ) (d : LayoutPlace) (n : Option ℕ) → IsSomeAnd (slice_get ps i) (λ (p : LayoutPlace). p.next ≡ option_or n None) → (get_or ps i d).next ≡ n
next_there ps i d n h = by (slice_get ps i) refl h where
  by : (o : Option LayoutPlace) → slice_get ps i ≡ o → IsSomeAnd o (λ (p : LayoutPlace). p.next ≡ option_or n None) → (get_or ps i d).next ≡ n
  by None is h = absurd h
  by (Some p) is h = ap (λ (q : LayoutPlace). q.next) (get_or_from_slice_get ps i p d is) ∙ (h ∙ or_nothing n)

first_laid : (ps : List LayoutPlace) (w : Forest Spot) (place end : ℕ) (next : Option ℕ) (entry : LayoutPlace) → slice_get ps place ≡ Some entry → entry.end ≡ end → AreLaid true ps w end next
    → ((x : ℕ) → start w x ≡ place) → end ≤ 128 → (kid : Forest Spot) → w ≡ kid → (at : ℕ) → start kid 0 ≡ at → (d : LayoutPlace)
    → AreLaid true ps kid (get_or ps at d).end next × (start kid (get_or ps at d).end ≡ at) × ((get_or ps at d).end ≤ 128)
first_laid ps w place end next entry here is l starts small kid same at there d =
    let e : (get_or ps at d).end ≡ end = ap (λ i. (get_or ps i d).end) (sym there ∙ (ap (λ x. start x 0) (sym same) ∙ starts 0)) ∙ (ap (λ (p : LayoutPlace). p.end) (get_or_from_slice_get ps place entry d here) ∙ is) in
    subst (λ x. AreLaid true ps x (get_or ps at d).end next × (start x (get_or ps at d).end ≡ at) × ((get_or ps at d).end ≤ 128)) same
    (subst (λ i. AreLaid true ps w i next) (sym e) l, starts _ ∙ (sym (starts 0) ∙ (ap (λ x. start x 0) same ∙ there)), omega (arith, e, small))

-- a chosen alternative is laid out up to the end that its entry tells
pub alternative_laid : (ps : List LayoutPlace) (kids : Forest Spot) (to : ℕ) (next : Option ℕ) → AreLaid true ps kids to next → to ≤ 128 → (c : ℕ) (kid : Forest Spot) → slice_get (each kids) c ≡ Some kid
    → (at : ℕ) → start kid 0 ≡ at → (d : LayoutPlace) → AreLaid true ps kid (get_or ps at d).end next × (start kid (get_or ps at d).end ≡ at) × ((get_or ps at d).end ≤ 128)
alternative_laid ps Empty to next l small c kid is at there d = absurd (cc)
alternative_laid ps (Plain s kk ks) to next l small zero kid is at there d = first_laid ps (Plain s kk Empty) s.place (start ks to) next _ l.0.here refl (l.0, l.1, tt) (λ x. refl)
    (let b = starts_before true ps ks to next l.2 in omega (arith, b, small)) kid (same_Some (Plain s kk Empty) kid is) at there d
alternative_laid ps (Group s kk ks) to next l small zero kid is at there d = first_laid ps (Group s kk Empty) s.place (start ks to) next _ l.0.here refl (l.0, l.1, tt) (λ x. refl)
    (let b = starts_before true ps ks to next l.2 in omega (arith, b, small)) kid (same_Some (Group s kk Empty) kid is) at there d
alternative_laid ps (Plain s kk ks) to next l small (suc c) kid is at there d = alternative_laid ps ks to next l.2 small c kid is at there d
alternative_laid ps (Group s kk ks) to next l small (suc c) kid is at there d = alternative_laid ps ks to next l.2 small c kid is at there d
