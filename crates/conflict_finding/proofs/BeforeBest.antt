-- Lines up to the offer and the place of the best settings refuse what stands before them.
use Rattle.std.proofs.Common.{◌≡◌, ◌≢◌, ◌<◌, ◌⊎◌, inl, inr, ℕ, zero, suc, true, false, List, [], ◌∷◌, ◌++◌, length, get_or, Option, Some, None, slice_get, refl, sym, ◌∙◌, ap, subst, arith}
use Rattle.std.specs.Prelude.{All, AllPairs, Contains, is_some, option_map}
use Rattle.std.proofs.lemmas.Bool.{cases_order}
use Rattle.std.proofs.lemmas.List.Elements.{All-contains, Contains-append_cases, Contains-append_left, Contains-get_or}
use Rattle.std.proofs.lemmas.Option.{same_Some, get_or_from_slice_get}
use Rattle.list_lemmas.proofs.CallerLemmas.{All-unmap, slice_get-append_left}
use Rattle.sysmem_formats.specs.declared.offer.Offer.{Offer}
use Rattle.sysmem_memory.specs.Listed.{HeapPlace, places_of}
use Rattle.sysmem_memory.specs.Place.{IsPlace, IsEarlier}
use Rattle.sysmem_memory.proofs.CallerLemmas.{listed_in_order, listed_is_place}
use Rattle.sysmem_merge.specs.declared.settings.Settings.{Settings}
use Rattle.sysmem_merge.specs.Best.{IsBest}
use Rattle.offer_fits.specs.Demands.{offer_demand, offer_demands}
use Rattle.offer_fits.specs.Fit.{CoversFit}
use Rattle.offer_fits.specs.Offers.{is_named}
use Rattle.sysmem_merge.specs.Settings.{Meets}
use Rattle.negotiation_inputs.specs.Platform.{PlatformFacts, offers_of}
use Rattle.sysmem_tree.specs.Node.{NodeFacts}
use Rattle.sysmem_tree.specs.Shape.{Member}
use Rattle.conflict_finding.specs.declared.refusals.Refusals.{Refusals}
use Rattle.conflict_finding.specs.declared.refusals.Refusals.TheVariants.{Whole, UpTo}
use Rattle.verdict_claims.specs.Base.{BaseFacts, terms_of}
use Rattle.verdict_claims.specs.Certificate.{HoldBefore, RefusePlacesBefore, RefuseBefore, RefuseBeforeFor}
use Rattle.verdict_claims.specs.CertificateFacts.{CertificateFacts}
use Rattle.verdict_claims.specs.Conflict.{RefusesOffer, RefusesPlace}
use Rattle.verdict_claims.specs.Line.{LineFacts}
use Rattle.verdict_claims.specs.Members.{participants}
use Rattle.conflict_finding.specs.Refusals.{ShareOffer, SharePlace, Ends, EndsAt, AreRefusals}
use Rattle.verdict_claims.specs.Verdict.{IsBestFor}
use Rattle.verdict_claims.proofs.Conflicts.{LineLaws, offer_refused, place_refused, zip_has}
use Rattle.conflict_finding.proofs.FoundConflicts.{there_is}
use Rattle.verdict_claims.proofs.Growing.{sub_itself}

-- what is at the place behind some elements
pub at_behind : {X : Type 0} (before behind : List X) (x : X) → slice_get (before ++ x ∷ behind) (length before) ≡ Some x
at_behind [] behind x = refl
at_behind (y ∷ before) behind x = at_behind before behind x

-- it comes before all behind it
pairs_behind : {X : Type 0} (R : X → X → Type 0) (before behind : List X) (x : X) → AllPairs R (before ++ x ∷ behind) → All (R x) behind
pairs_behind R [] behind x pairs = λ k d less. pairs 0 (suc k) d (omega arith) (omega (arith, less))
pairs_behind R (y ∷ before) behind x pairs = pairs_behind R before behind x (λ i j d below within. pairs (suc i) (suc j) d (omega (arith, below)) (omega (arith, within)))

-- an element at an index is contained
contains_at : {X : Type 0} (xs : List X) (k : ℕ) (x : X) → k < length xs → slice_get xs k ≡ Some x → Contains xs x
contains_at xs k x less here = (k, less, get_or_from_slice_get xs k x x here)

-- the first of a list or one of the others
first_or_later : {X : Type 0} (x y : X) (xs : List X) → Contains (x ∷ xs) y → (x ≡ y) ⊎ Contains xs y
first_or_later x y xs (zero, less, same) = inl same
first_or_later x y xs (suc k, less, same) = inr (k, omega (arith, less), same)

module _ (laws : LineLaws) (platform : PlatformFacts) (ms : List Member) (s : Settings) (best : IsBest true platform (participants ms) s) where
  -- what a line refuses is neither the settings' offer nor their place
  refused_offer : (o : Offer) (line : LineFacts) → RefusesOffer true ms o line → o ≢ s.offer
  refused_offer o line refuses same =
      offer_refused laws platform true true ms ms line s (sub_itself ms) (λ whole. (refl, refl)) (subst (λ x. RefusesOffer true ms x line) same refuses) best.meets

  refused_place : (p : HeapPlace) (line : LineFacts) → Contains (places_of platform.heaps) p → RefusesPlace ms p line → p.place ≢ s.place
  refused_place p line has refuses same =
      place_refused laws platform true ms ms p line s (sub_itself ms) (subst (λ q. IsPlace platform.heaps q p.heap) same ((listed_is_place platform.heaps p.place p.heap).1 has)) same refuses best.meets

  -- an offer that is shared, with the place and the count of the settings
  with_fit : (o : Offer) → Contains (offers_of platform) o → (share : ShareOffer true ms o)
      → Meets platform (participants ms) (record { offer = share.fit.offer; place = s.place; count = s.count; size_bytes = share.fit.size_bytes; bounds = share.fit.bounds })
  with_fit o offered share = record {
    loosely = record {
      heap = best.meets.loosely.heap;
      sound = record {
        offer = subst (Contains (offers_of platform)) (sym share.best.offer) offered;
        place = best.meets.loosely.sound.place;
        fit = share.best.meets.sound;
      };
      covers = λ k q less. record {
        fit = All-unmap (CoversFit share.fit) offer_demand (participants ms) share.best.meets.covers k q less;
        place = (best.meets.loosely.covers k q less).place;
      };
      counted = best.meets.loosely.counted;
    };
    named = ap (λ f. is_named f (offer_demands (participants ms))) share.best.offer ∙ share.named refl;
  }

  -- a place that is shared, with all else of the settings
  with_place : (p : HeapPlace) → Contains (places_of platform.heaps) p → SharePlace ms p
      → Meets platform (participants ms) (record { offer = s.offer; place = p.place; count = s.count; size_bytes = s.size_bytes; bounds = s.bounds })
  with_place p has share = record {
    loosely = record {
      heap = p.heap;
      sound = record {
        offer = best.meets.loosely.sound.offer;
        place = (listed_is_place platform.heaps p.place p.heap).1 has;
        fit = best.meets.loosely.sound.fit;
      };
      covers = λ k q less. record { fit = (best.meets.loosely.covers k q less).fit; place = share k q less };
      counted = best.meets.loosely.counted;
    };
    named = best.meets.named;
  }

  -- an offer before that of the settings isn't shared
  module _ (lines : List LineFacts) (e : EndsAt (RefusesOffer true ms) (Ends (Some s.offer) (λ (o : Offer). o) (ShareOffer true ms)) (offers_of platform) lines) where
    others : All (λ y. y ≢ s.offer) e.before
    others k d less =
        let found = zip_has (RefusesOffer true ms) e.before lines (get_or e.before k d) e.each (Contains-get_or e.before k d less) in
        refused_offer (get_or e.before k d) found.0 found.1

    not_shared : e.at ≢ s.offer → ShareOffer true ms e.at → ⊥
    not_shared other share = (best.best _ (with_fit e.at (there_is (offers_of platform) e.before e.behind e.at e.there) share)).offer (record {
      index = length e.before;
      here = ap (λ os. slice_get os (length e.before)) e.there ∙ (at_behind e.before e.behind e.at ∙ ap (λ o. Some o) (sym share.best.offer));
      before = behind;
    }) where
      behind : (k : ℕ) → slice_get (offers_of platform) k ≡ Some s.offer → length e.before < k
      behind k here = elim (cases_order k (length e.before)) as (λ _. length e.before < k) [
        | inl same ↦ absurd (other (same_Some e.at s.offer (sym (at_behind e.before e.behind e.at) ∙ (ap (slice_get (e.before ++ e.at ∷ e.behind)) (sym same) ∙ (sym (ap (λ os. slice_get os k) e.there) ∙ here)))))
        | inr (inl less) ↦ absurd (All-contains (λ y. y ≢ s.offer) e.before s.offer others
            (contains_at e.before k s.offer less (sym (slice_get-append_left e.before (e.at ∷ e.behind) k less) ∙ (sym (ap (λ os. slice_get os k) e.there) ∙ here))) refl)
        | inr (inr more) ↦ more
      ]

    offer_reached : e.at ≡ s.offer
    offer_reached = elim e.end as (λ _. e.at ≡ s.offer) [
      | inl is ↦ sym (same_Some s.offer e.at is)
      | inr end ↦ absurd (not_shared (λ same. end.0 (ap (λ o. Some o) (sym same))) end.1)
    ]

    offers_held : HoldBefore (RefusesOffer true ms) (offers_of platform) s.offer lines
    offers_held = record {
      before = e.before;
      behind = e.behind;
      there = subst (λ o. offers_of platform ≡ e.before ++ o ∷ e.behind) offer_reached e.there;
      first = others;
      each = e.each;
    }

  -- so each offer before that of the settings has its line
  pub offers_before : (r : Refusals) (lines : List LineFacts) → (r ≡ Whole lines) ⊎ (r ≡ UpTo lines) → AreRefusals (RefusesOffer true ms) (Ends (Some s.offer) (λ (o : Offer). o) (ShareOffer true ms)) (offers_of platform) r
      → HoldBefore (RefusesOffer true ms) (offers_of platform) s.offer lines
  offers_before r lines (inl is) are =
      let all = subst (AreRefusals (RefusesOffer true ms) (Ends (Some s.offer) (λ (o : Offer). o) (ShareOffer true ms)) (offers_of platform)) is are in
      let found = zip_has (RefusesOffer true ms) (offers_of platform) lines s.offer all best.meets.loosely.sound.offer in
      absurd (refused_offer s.offer found.0 found.1 refl)
  offers_before r lines (inr is) are = offers_held lines (subst (AreRefusals (RefusesOffer true ms) (Ends (Some s.offer) (λ (o : Offer). o) (ShareOffer true ms)) (offers_of platform)) is are)

  abbrev there : HeapPlace
  there = record { place = s.place; heap = best.meets.loosely.heap }

  there_listed : Contains (places_of platform.heaps) there
  there_listed = (listed_is_place platform.heaps s.place best.meets.loosely.heap).0 best.meets.loosely.sound.place

  -- nor is a place before theirs
  module _ (lines : List LineFacts) (e : EndsAt (RefusesPlace ms) (Ends (Some s.place) (λ (p : HeapPlace). p.place) (SharePlace ms)) (places_of platform.heaps) lines) where
    other_places : All (λ y. y.place ≢ s.place) e.before
    other_places k d less =
        let has = Contains-get_or e.before k d less in
        let found = zip_has (RefusesPlace ms) e.before lines (get_or e.before k d) e.each has in
        refused_place (get_or e.before k d) found.0 (subst (λ ps. Contains ps (get_or e.before k d)) (sym e.there) (Contains-append_left e.before (e.at ∷ e.behind) (get_or e.before k d) has)) found.1

    comes_first : e.at.place ≢ s.place → IsEarlier e.at.place s.place
    comes_first other = elim (Contains-append_cases e.before (e.at ∷ e.behind) there (subst (λ ps. Contains ps there) e.there there_listed)) as (λ _. IsEarlier e.at.place s.place) [
      | inl has ↦ absurd (All-contains (λ y. y.place ≢ s.place) e.before there other_places has refl)
      | inr has ↦ elim (first_or_later e.at there e.behind has) as (λ _. IsEarlier e.at.place s.place) [
        | inl same ↦ absurd (other (ap (λ (p : HeapPlace). p.place) same))
        | inr later ↦ All-contains (λ y. IsEarlier e.at.place y.place) e.behind there
            (pairs_behind (λ x y. IsEarlier x.place y.place) e.before e.behind e.at (subst (AllPairs (λ x y. IsEarlier x.place y.place)) e.there (listed_in_order platform.heaps))) later
      ]
    ]

    place_reached : e.at.place ≡ s.place
    place_reached = elim e.end as (λ _. e.at.place ≡ s.place) [
      | inl is ↦ sym (same_Some s.place e.at.place is)
      | inr end ↦ absurd ((best.best _ (with_place e.at (there_is (places_of platform.heaps) e.before e.behind e.at e.there) end.1)).place refl (comes_first (λ same. end.0 (ap (λ p. Some p) (sym same)))))
    ]

    places_held : RefusePlacesBefore platform ms s lines
    places_held = record {
      at = e.at;
      same = place_reached;
      each = record {
        before = e.before;
        behind = e.behind;
        there = e.there;
        first = λ k d less same. other_places k d less (ap (λ (p : HeapPlace). p.place) same ∙ place_reached);
        each = e.each;
      };
    }

  pub places_before : (r : Refusals) (lines : List LineFacts) → (r ≡ Whole lines) ⊎ (r ≡ UpTo lines) → AreRefusals (RefusesPlace ms) (Ends (Some s.place) (λ (p : HeapPlace). p.place) (SharePlace ms)) (places_of platform.heaps) r
      → RefusePlacesBefore platform ms s lines
  places_before r lines (inl is) are =
      let all = subst (AreRefusals (RefusesPlace ms) (Ends (Some s.place) (λ (p : HeapPlace). p.place) (SharePlace ms)) (places_of platform.heaps)) is are in
      let found = zip_has (RefusesPlace ms) (places_of platform.heaps) lines there all there_listed in
      absurd (refused_place there found.0 there_listed found.1 refl)
  places_before r lines (inr is) are = places_held lines (subst (AreRefusals (RefusesPlace ms) (Ends (Some s.place) (λ (p : HeapPlace). p.place) (SharePlace ms)) (places_of platform.heaps)) is are)

-- without a base a domain is an initial one
pub best_initial : {B : Type 0} (f : B → BaseFacts) (o : Option B) (platform : PlatformFacts) (nodes : List NodeFacts) (ms : List Member) (s : Settings) → is_some o ≡ false
    → IsBestFor platform (option_map (terms_of nodes) (option_map f o)) ms s → IsBestFor platform None ms s
best_initial f None platform nodes ms s none best = best
best_initial f (Some b) platform nodes ms s none best = absurd (cc)

pub before_initial : {B : Type 0} (f : B → BaseFacts) (o : Option B) (platform : PlatformFacts) (nodes : List NodeFacts) (ms : List Member) (s : Settings) (c : CertificateFacts) → is_some o ≡ false
    → RefuseBefore platform ms s c → RefuseBeforeFor platform (option_map (terms_of nodes) (option_map f o)) ms s c
before_initial f None platform nodes ms s c none before = before
before_initial f (Some b) platform nodes ms s c none before = absurd (cc)
