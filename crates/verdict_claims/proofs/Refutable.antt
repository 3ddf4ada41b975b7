-- A forest that no settings meet has a refutation.
use Rattle.std.proofs.Common.{◌≡◌, ◌≢◌, ◌⊎◌, inl, inr, arith, ℕ, zero, suc, ◌+◌, ◌<◌, ◌≤◌, true, List, [], ◌∷◌, ◌++◌, length, map, All, Option, Some, None, IfSome, is_some, is_none, slice_get, refl, sym, ◌∙◌, ap, subst}
use Rattle.std.specs.Prelude.{AllPairs, filter, take}
use Rattle.std.specs.List.{AllZip, filter_map, cons_option, flat_map}
use Rattle.std.proofs.lemmas.List.Elements.{All-nil, All-cons, All-head, All-tail, All-weaker, All-map, filter_passes}
use Rattle.std.proofs.lemmas.Option.{same_Some, slice_get-get_or, slice_get_within, get_or_from_slice_get}
use Rattle.list_lemmas.proofs.CallerLemmas.{Any-here}
use Rattle.sysmem_counts.specs.declared.field.Field.{Field}
use Rattle.sysmem_memory.specs.Heap.{HeapFacts}
use Rattle.sysmem_merge.specs.declared.settings.Settings.{Settings}
use Rattle.offer_fits.specs.Demands.{counts_asked}
use Rattle.sysmem_merge.specs.Failing.{FailsOn}
use Rattle.sysmem_merge.specs.Reasons.{IsReason}
use Rattle.sysmem_merge.specs.Settings.{CoversOn}
use Rattle.negotiation_inputs.specs.Participant.{Participant}
use Rattle.negotiation_inputs.specs.Platform.{PlatformFacts}
use Rattle.sysmem_tree.specs.Forest.{Forest, Empty, Plain, Group, each, choices, kids_else_rest, settled}
use Rattle.sysmem_tree.specs.Laws.{PathsDiffer}
use Rattle.sysmem_tree.specs.Selection.{after}
use Rattle.sysmem_tree.specs.Shape.{Member}
use Rattle.sysmem_tree.specs.Sublist.{IsSublist, ended, taken, left_out}
use Rattle.verdict_claims.specs.declared.conflict.Conflict.{Conflict}
use Rattle.verdict_claims.specs.declared.conflict.Conflict.TheVariants.{Count, Fixed}
use Rattle.verdict_claims.specs.declared.refutation.Item.{Item}
use Rattle.verdict_claims.specs.declared.refutation.Item.TheVariants.{Split, Leaf}
use Rattle.verdict_claims.specs.Base.{Terms}
use Rattle.verdict_claims.specs.Certificate.{IsRefutation}
use Rattle.verdict_claims.specs.Conflict.{IsConflictFor}
use Rattle.verdict_claims.specs.Members.{participants}
use Rattle.verdict_claims.specs.Naming.{Names}
use Rattle.verdict_claims.specs.Verdict.{IsForestUnmet, MeetsFor}
use Rattle.verdict_claims.proofs.Deciding.{any_or_all}
use Rattle.verdict_claims.proofs.FailsOrCovers.{fails_or_covers}
use Rattle.verdict_claims.proofs.FinderLemmas.{some_are_named, reasons_are_conflicts, splits_refute}
use Rattle.verdict_claims.proofs.ReasonOrMet.{reason_or_met, fixed_count_or_line}
use Rattle.verdict_claims.proofs.SettledNodes.{filter_sub, asks, asked_alike}
use Rattle.verdict_claims.proofs.Walks.{after_choice, joins}

-- how many groups are left
abbrev groups : {A : Type 0} → Forest A → ℕ
groups Empty = 0
groups (Plain n kids rest) = groups kids + groups rest
groups (Group n kids rest) = suc (groups kids + groups rest)

-- a tree of a forest has no more
groups_each : {A : Type 0} (d : Forest A) → All (λ e. groups e ≤ groups d) (each d)
groups_each Empty = All-nil (λ e. groups e ≤ 0)
groups_each {A} (Plain n kids rest) = All-cons (λ e. groups e ≤ groups kids + groups rest) (Plain n kids Empty) (each rest) (omega arith)
    (All-weaker (λ e. groups e ≤ groups rest) (λ e. groups e ≤ groups kids + groups rest) (λ e h. omega (arith, h)) (each rest) (groups_each rest))
groups_each {A} (Group n kids rest) = All-cons (λ e. groups e ≤ suc (groups kids + groups rest)) (Group n kids Empty) (each rest) (omega arith)
    (All-weaker (λ e. groups e ≤ groups rest) (λ e. groups e ≤ suc (groups kids + groups rest)) (λ e h. omega (arith, h)) (each rest) (groups_each rest))

-- a choice leaves fewer
pub choices_fewer : {A : Type 0} (d : Forest A) (es : List (Forest A)) → choices d ≡ Some es → All (λ e. groups e < groups d) es
choices_fewer Empty es open' = absurd (cc)
choices_fewer {A} (Plain n kids rest) es open' = by (choices kids) (choices rest) refl refl open' (choices_fewer kids) (choices_fewer rest) where
  by : (ks rs : Option (List (Forest A))) → choices kids ≡ ks → choices rest ≡ rs → kids_else_rest (λ k. Plain n k rest) (λ r. Plain n kids r) ks rs ≡ Some es
      → ((fs : List (Forest A)) → choices kids ≡ Some fs → All (λ f. groups f < groups kids) fs)
      → ((fs : List (Forest A)) → choices rest ≡ Some fs → All (λ f. groups f < groups rest) fs) → All (λ e. groups e < groups kids + groups rest) es
  by (Some ks) rs is there e of_kids of_rest = subst (All (λ e. groups e < groups kids + groups rest)) (same_Some (map (λ k. Plain n k rest) ks) es e)
      (All-map (λ e. groups e < groups kids + groups rest) (λ k. Plain n k rest) ks
      (All-weaker (λ k. groups k < groups kids) (λ k. groups (Plain n k rest) < groups kids + groups rest) (λ k h. omega (arith, h)) ks (of_kids ks is)))
  by None (Some rs) is there e of_kids of_rest = subst (All (λ e. groups e < groups kids + groups rest)) (same_Some (map (λ r. Plain n kids r) rs) es e)
      (All-map (λ e. groups e < groups kids + groups rest) (λ r. Plain n kids r) rs
      (All-weaker (λ r. groups r < groups rest) (λ r. groups (Plain n kids r) < groups kids + groups rest) (λ r h. omega (arith, h)) rs (of_rest rs there)))
  by None None is there e of_kids of_rest = absurd (cc)
choices_fewer {A} (Group n kids rest) es open' = subst (All (λ e. groups e < suc (groups kids + groups rest))) (same_Some (map (λ kid. Plain n kid rest) (each kids)) es open')
    (All-map (λ e. groups e < suc (groups kids + groups rest)) (λ kid. Plain n kid rest) (each kids)
    (All-weaker (λ kid. groups kid ≤ groups kids) (λ kid. groups (Plain n kid rest) < suc (groups kids + groups rest)) (λ kid h. omega (arith, h)) (each kids) (groups_each kids)))

fewer : (d : Forest Member) (es : List (Forest Member)) → choices d ≡ Some es → (c : ℕ) (e : Forest Member) → slice_get es c ≡ Some e → groups e < groups d
fewer d es open' c e here = subst (λ x. groups x < groups d) (get_or_from_slice_get es c e e here) (choices_fewer d es open' c e (slice_get_within es c e here))

-- those of a list, by their places
pub all_of : {X : Type 0} (P : X → Type 0) (xs : List X) → ((i : ℕ) (x : X) → slice_get xs i ≡ Some x → P x) → All P xs
all_of P [] f = All-nil P
all_of P (x ∷ xs) f = All-cons P x xs (f 0 x refl) (all_of P xs (λ i y here. f (suc i) y here))

-- the first of a list
pub all_taken : {X : Type 0} (P : X → Type 0) (c : ℕ) (xs : List X) → ((i : ℕ) (x : X) → i < c → slice_get xs i ≡ Some x → P x) → All P (take c xs)
all_taken P zero xs f = All-nil P
all_taken P (suc c) [] f = All-nil P
all_taken P (suc c) (x ∷ xs) f = All-cons P x (take c xs) (f 0 x (omega arith) refl) (all_taken P c xs (λ i y less here. f (suc i) y (omega (arith, less)) here))

-- where each of a list has one that goes with it
pub collected : {X Y : Type 0} (R : X → Y → Type 0) (xs : List X) → All (λ x. (y : Y) × R x y) xs → (ys : List Y) × AllZip R xs ys
collected R [] all = ([], tt)
collected {X} {Y} R (x ∷ xs) all =
    let first = All-head (λ x. (y : Y) × R x y) x xs all in
    let rest = collected R xs (All-tail (λ x. (y : Y) × R x y) x xs all) in
    (first.0 ∷ rest.0, (first.1, rest.1))

-- where each that a list gives has a property, all that are given have it
to_each : {X Y : Type 0} (g : X → Option Y) (P : Y → Type 0) (xs : List X) → All (λ x. IfSome (g x) P) xs → All P (filter_map g xs)
to_each g P [] all = All-nil P
to_each {X} {Y} g P (x ∷ xs) all = at (g x) refl (All-head (λ z. IfSome (g z) P) x xs all) (to_each g P xs (All-tail (λ z. IfSome (g z) P) x xs all)) where
  at : (y : Option Y) → g x ≡ y → IfSome (g x) P → All P (filter_map g xs) → All P (cons_option (g x) (filter_map g xs))
  at None is h rest = subst (λ y. All P (cons_option y (filter_map g xs))) (sym is) rest
  at (Some y) is h rest = subst (λ y. All P (cons_option y (filter_map g xs))) (sym is) (All-cons P y (filter_map g xs) (subst (λ y. IfSome y P) is h) rest)

-- pairs of the second of two lists
pairs_behind : {X : Type 0} (R : X → X → Type 0) (xs ys : List X) → AllPairs R (xs ++ ys) → AllPairs R ys
pairs_behind R [] ys pairs = pairs
pairs_behind R (x ∷ xs) ys pairs = pairs_behind R xs ys (λ i j d below within. pairs (suc i) (suc j) d (omega (arith, below)) (omega (arith, within)))

-- one of a list, alone
sub_one : {X : Type 0} (xs : List X) (i : ℕ) (x : X) → slice_get xs i ≡ Some x → IsSublist (x ∷ []) xs
sub_one [] i x here = absurd (cc)
sub_one (y ∷ ys) zero x here = subst (λ z. IsSublist (z ∷ []) (y ∷ ys)) (same_Some y x here) (taken y [] ys (sub_none ys)) where
  sub_none : {X : Type 0} (zs : List X) → IsSublist [] zs
  sub_none [] = ended
  sub_none (z ∷ zs) = left_out z [] zs (sub_none zs)
sub_one (y ∷ ys) (suc i) x here = left_out y (x ∷ []) ys (sub_one ys i x here)

-- all participants are named by their paths
pub all_named : (ms : List Member) → PathsDiffer ms → Names ms (map (λ m. m.path) (filter asks ms)) (participants ms)
all_named ms apart = subst (Names ms (map (λ m. m.path) (filter asks ms))) (asked_alike ms) (some_are_named (filter asks ms) ms apart (filter_sub asks ms) (filter_passes asks ms))

-- and one by its own
one_named : (ms : List Member) (i : ℕ) (m : Member) (p : Participant) → PathsDiffer ms → slice_get ms i ≡ Some m → m.constraints ≡ Some p → Names ms (m.path ∷ []) (p ∷ [])
one_named ms i m p apart here is = subst (Names ms (m.path ∷ [])) alone
    (some_are_named (m ∷ []) ms apart (sub_one ms i m here) (All-cons (λ n. is_some n.constraints ≡ true) m [] (ap is_some is) (All-nil (λ n. is_some n.constraints ≡ true)))) where
      alone : participants (m ∷ []) ≡ p ∷ []
      alone = ap (λ c. cons_option c []) is

-- who was accepted before
abbrev pub others : Option Terms → List Member
others None = []
others (Some terms) = terms.accepted

-- the heap of the terms is the platform's, and their count up to the limit
abbrev pub FitTerms : PlatformFacts → Option Terms → Type 0
FitTerms platform None = Unit {0}
FitTerms platform (Some terms) = ((heap : HeapFacts) × (slice_get platform.heaps terms.settings.place.heap ≡ Some heap)) × (terms.settings.count ≤ 128)

-- wherever choices lead, who is settled has a path of their own
abbrev pub Apart : Option Terms → Forest Member → Type 0
Apart terms d = (cs : List ℕ) (e : Forest Member) → after d cs ≡ Some e → PathsDiffer (others terms ++ settled e)

-- then who is settled here has
pub own : (terms : Option Terms) (ms : List Member) → PathsDiffer (others terms ++ ms) → PathsDiffer ms
own terms ms apart = pairs_behind (λ a b. a.path ≢ b.path) (others terms) ms apart

module _ (platform : PlatformFacts) where
  abbrev ConflictOrMet : Option Terms → Forest Member → Type 0
  ConflictOrMet terms d = ((c : Conflict) × IsConflictFor platform terms d c) ⊎ ((t : Settings) × MeetsFor platform terms (settled d) t)

  initial_conflict : (d : Forest Member) → choices d ≡ None → PathsDiffer (settled d) → ConflictOrMet None d
  initial_conflict d whole apart = elim (reason_or_met true platform (participants (settled d))) as (λ _. ConflictOrMet None d) [
    | inr met ↦ inr met
    | inl reason ↦ inl (
        let conflict = reasons_are_conflicts platform d (map (λ m. m.path) (filter asks (settled d))) (all_named (settled d) apart) reason.0
        (subst (λ w. IsReason w platform (participants (settled d)) reason.0) (sym (ap is_none whole)) reason.1) in
        (conflict.0, conflict.1))
  ]

  -- of one member of an attached domain
  module _ (terms : Terms) (heap : HeapFacts) (has : slice_get platform.heaps terms.settings.place.heap ≡ Some heap) where
    abbrev Fails : Member → Type 0
    Fails m = (p : Participant) × (m.constraints ≡ Some p) × ((f : Field) × FailsOn f platform terms.settings p)

    member_fails : (m : Member) → Fails m ⊎ IfSome m.constraints (CoversOn platform terms.settings)
    member_fails m = at m.constraints refl where
      at : (c : Option Participant) → m.constraints ≡ c → Fails m ⊎ IfSome m.constraints (CoversOn platform terms.settings)
      at None is = inr (subst (λ c. IfSome c (CoversOn platform terms.settings)) (sym is) tt)
      at (Some p) is = elim (fails_or_covers platform heap terms.settings p has) as (λ _. Fails m ⊎ IfSome m.constraints (CoversOn platform terms.settings)) [
        | inl fails ↦ inl (p, is, fails)
        | inr covers ↦ inr (subst (λ c. IfSome c (CoversOn platform terms.settings)) (sym is) covers)
      ]

    fixed_conflict : (d : Forest Member) → terms.settings.count ≤ 128 → PathsDiffer (terms.accepted ++ settled d) → ConflictOrMet (Some terms) d
    fixed_conflict d small apart =
        elim (fixed_count_or_line terms.settings.count (counts_asked (participants (terms.accepted ++ settled d))) small) as (λ _. ConflictOrMet (Some terms) d) [
          | inl line ↦ inl (
            Count (record { field = line.0; nodes = map (λ m. m.path) (filter asks (terms.accepted ++ settled d)) }),
            (participants (terms.accepted ++ settled d), all_named (terms.accepted ++ settled d) apart, line.1),
          )
          | inr counted ↦ elim (any_or_all Fails (λ m. IfSome m.constraints (CoversOn platform terms.settings)) member_fails (settled d)) as (λ _. ConflictOrMet (Some terms) d) [
            | inl any ↦ inl (
              Fixed any.4.2.0 any.1.path,
              (
                any.4.0 ∷ [],
                one_named (settled d) any.0 any.1 any.4.0 (pairs_behind (λ a b. a.path ≢ b.path) terms.accepted (settled d) apart)
                    (slice_get-get_or (settled d) any.0 any.1 any.2 ∙ ap (λ x. Some x) any.3) any.4.1,
                Any-here (FailsOn any.4.2.0 platform terms.settings) any.4.0 [] any.4.2.1,
              ),
            )
            | inr all ↦ inr (terms.settings, record { same = refl; covers = to_each (λ m. m.constraints) (CoversOn platform terms.settings) (settled d) all; counted = counted })
          ]
        ]

  -- where no group is left, what is settled has a conflict, or some settings meet it
  conflict_or_met : (terms : Option Terms) (d : Forest Member) → FitTerms platform terms → choices d ≡ None → Apart terms d → ConflictOrMet terms d
  conflict_or_met None d fit whole apart = initial_conflict d whole (apart [] d refl)
  conflict_or_met (Some terms) d fit whole apart = fixed_conflict terms fit.0.0 fit.0.1 d fit.1 (apart [] d refl)

  module _ (terms : Option Terms) (fit : FitTerms platform terms) where
    abbrev Refuted : Forest Member → Type 0
    Refuted d = (items : List Item) × IsRefutation platform terms d items

    -- what a choice leads to
    pub apart_child : (d e : Forest Member) (es : List (Forest Member)) (c : ℕ) → choices d ≡ Some es → slice_get es c ≡ Some e → Apart terms d → Apart terms e
    apart_child d e es c open' here apart cs f leads = apart (c ∷ cs) f (after_choice d e f es c cs open' here ∙ leads)

    unmet_child : (d e : Forest Member) (es : List (Forest Member)) (c : ℕ) → choices d ≡ Some es → slice_get es c ≡ Some e
        → IsForestUnmet (MeetsFor platform terms) d → IsForestUnmet (MeetsFor platform terms) e
    unmet_child d e es c open' here unmet cs f t s met = unmet (c ∷ cs) f t (joins d e f es c cs open' here s) met

    -- a leaf, or a split and refutations of each choice
    leaf : (d : Forest Member) → choices d ≡ None → Apart terms d → IsForestUnmet (MeetsFor platform terms) d → Refuted d
    leaf d whole apart unmet = elim (conflict_or_met terms d fit whole apart) as (λ _. Refuted d) [
      | inl conflict ↦ (Leaf conflict.0 ∷ [], (conflict.1, tt))
      | inr met ↦ absurd (unmet [] d met.0 (record { leads = refl; whole = whole }) met.1)
    ]

    split : (d : Forest Member) (es : List (Forest Member)) → choices d ≡ Some es → All Refuted es → Refuted d
    split d es open' all =
        let each = collected (λ e items. IsRefutation platform terms e items) es all in
        (Split (length es) ∷ flat_map (λ items. items) each.0, splits_refute (IsConflictFor platform terms) d es each.0 open' each.1)

    refuted_within : (many : ℕ) (d : Forest Member) (o : Option (List (Forest Member))) → choices d ≡ o → groups d ≤ many → Apart terms d
        → IsForestUnmet (MeetsFor platform terms) d → Refuted d
    refuted_within many d None whole few apart unmet = leaf d whole apart unmet
    refuted_within zero d (Some es) open' few apart unmet = split d es open' (all_of Refuted es (λ c e here.
        let less = fewer d es open' c e here in absurd (omega (arith, less, few))))
    refuted_within (suc many) d (Some es) open' few apart unmet = split d es open' (all_of Refuted es (λ c e here.
        let less = fewer d es open' c e here in
        refuted_within many e (choices e) refl (omega (arith, less, few)) (apart_child d e es c open' here apart) (unmet_child d e es c open' here unmet)))

    -- a forest that no settings meet has a refutation
    pub refuted : (d : Forest Member) → Apart terms d → IsForestUnmet (MeetsFor platform terms) d → Refuted d
    refuted d apart unmet = refuted_within (groups d) d (choices d) refl (omega arith) apart unmet
