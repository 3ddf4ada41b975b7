-- An optimal choice has a certificate.
use Rattle.std.proofs.Common.{◌≡◌, ◌≢◌, inl, inr, arith, ℕ, zero, suc, ◌<◌, Bool, true, false, List, [], ◌∷◌, ◌++◌, length, map, All, Contains, Option, Some, None, slice_get, get_or, refl, sym, ◌∙◌, ap, subst}
use Rattle.std.specs.Prelude.{filter, take}
use Rattle.std.specs.List.{AllZip}
use Rattle.std.proofs.lemmas.List.Elements.{All-nil, All-cons, All-map, All-weaker}
use Rattle.std.proofs.lemmas.Bool.{cases_lt}
use Rattle.std.proofs.lemmas.Option.{same_Some, slice_get-get_or, slice_get_within, get_or_from_slice_get}
use Rattle.list_lemmas.proofs.CallerLemmas.{All-unmap, slice_get-append_left}
use Rattle.sysmem_formats.specs.contracts.offer.OfferPartialEq.TheImpl as offer
use Rattle.sysmem_formats.specs.declared.offer.Offer.{Offer}
use Rattle.sysmem_memory.proofs.CallerLemmas.{listed_is_place, listed_in_order, no_place_before_itself}
use Rattle.sysmem_memory.specs.Listed.{HeapPlace, places_of}
use Rattle.sysmem_memory.specs.Place.{IsPlace, IsEarlier}
use Rattle.sysmem_memory.specs.PlaceTable.{AllowsPlace}
use Rattle.sysmem_merge.specs.declared.settings.Settings.{Settings}
use Rattle.sysmem_merge.specs.Best.{IsBest}
use Rattle.offer_fits.specs.Demands.{place_demand, place_demands, offer_demands}
use Rattle.sysmem_merge.specs.Settings.{Covers, Meets}
use Rattle.negotiation_inputs.specs.Platform.{PlatformFacts, offers_of}
use Rattle.sysmem_tree.specs.Forest.{Forest, settled}
use Rattle.sysmem_tree.specs.Laws.{PathsDiffer}
use Rattle.sysmem_tree.specs.Selection.{IsSelection}
use Rattle.sysmem_tree.specs.Shape.{Member}
use Rattle.verdict_claims.specs.declared.refutation.Item.{Item}
use Rattle.verdict_claims.specs.Base.{Terms}
use Rattle.verdict_claims.specs.Certificate.{IsCertificate, IsRefutation, RefutesEarlier, HoldBefore, RefuseBeforeFor, RefusePlacesBefore}
use Rattle.verdict_claims.specs.CertificateFacts.{CertificateFacts}
use Rattle.verdict_claims.specs.Conflict.{IsConflictFor, RefusesOffer, RefusesPlace}
use Rattle.verdict_claims.specs.Line.{LineFacts}
use Rattle.verdict_claims.specs.Members.{participants}
use Rattle.verdict_claims.specs.Verdict.{IsUnmetBefore, IsChosen, MeetsFor, IsBestFor}
use Rattle.verdict_claims.proofs.FinderLemmas.{earlier_grows}
use Rattle.verdict_claims.proofs.OfferCases.{refused_or_fit}
use Rattle.verdict_claims.proofs.ReasonOrMet.{refused_or_allowed, meets_with, settings_with}
use Rattle.verdict_claims.proofs.Refutable.{Apart, FitTerms, all_of, all_taken, collected, all_named, apart_child, refuted, own}
use Rattle.verdict_claims.proofs.SameOffer.{same_offer}
use Rattle.verdict_claims.proofs.SettledNodes.{asks}
use Rattle.verdict_claims.proofs.Walks.{joins, goes_on}

module _ (platform : PlatformFacts) (terms : Option Terms) (fit : FitTerms platform terms) where
  -- what is earlier than a selection is refuted
  pub earlier_refuted : (cs : List ℕ) (d f : Forest Member) → IsSelection d cs f → Apart terms d → IsUnmetBefore (MeetsFor platform terms) d cs
      → (rss : List (List (List Item))) × RefutesEarlier (IsConflictFor platform terms) d cs rss
  earlier_refuted [] d f s apart unmet = ([], tt)
  earlier_refuted (c ∷ cs) d f s apart unmet = goes_on ((rss : List (List (List Item))) × RefutesEarlier (IsConflictFor platform terms) d (c ∷ cs) rss) d f c cs s (λ es e open' here on.
      let before = collected (λ x items. IsRefutation platform terms x items) (take c es) (all_taken (λ x. (items : List Item) × IsRefutation platform terms x items) c es (λ i x less there.
      refuted platform terms fit x (apart_child platform terms fit d x es i open' there apart)
      (λ other g t goes met. unmet (i ∷ other) g t (joins d x g es i other open' there goes) (inl less) met))) in
      let rest = earlier_refuted cs e f on (apart_child platform terms fit d e es c open' here apart)
      (λ other g t goes earlier met. unmet (c ∷ other) g t (joins d e g es c other open' here goes) (inr (refl, earlier)) met) in
      (before.0 ∷ rest.0, earlier_grows (IsConflictFor platform terms) d e es c cs before.0 rest.0 open' here before.1 rest.1))

-- a list up to the first place of an element
pub record UpToFirst {X : Type 0} (xs : List X) (x : X) : Type 0 where
  pub before : List X
  pub behind : List X
  pub there : xs ≡ before ++ x ∷ behind
  pub first : All (λ y. y ≢ x) before

up_to_first : (xs : List Offer) (x : Offer) → Contains xs x → UpToFirst xs x
up_to_first [] x has = absurd (omega (arith, has.1))
up_to_first (y ∷ ys) x has = by (offer.ghosts.eq y x) refl (λ more. up_to_first ys x more) where
  later : (y ≡ x → ⊥) → Contains (y ∷ ys) x → Contains ys x
  later differ (zero, below, is) = absurd (differ is)
  later differ (suc k, below, is) = (k, omega (arith, below), is)

  by : (same : Bool) → offer.ghosts.eq y x ≡ same → (Contains ys x → UpToFirst ys x) → UpToFirst (y ∷ ys) x
  by true is more = record { before = []; behind = ys; there = ap (λ z. z ∷ ys) ((same_offer y x).0 is); first = All-nil (λ z. z ≢ x) }
  by false is more =
      let differ : y ≡ x → ⊥ = λ same. (let yes' = (same_offer y x).1 same in absurd (cc)) in
      let rest = more (later differ has) in
      record {
        before = y ∷ rest.before;
        behind = rest.behind;
        there = ap (λ zs. y ∷ zs) rest.there;
        first = All-cons (λ z. z ≢ x) y rest.before differ rest.first;
      }

-- a list at a place
pub record SplitAt {X : Type 0} (xs : List X) (k : ℕ) (x : X) : Type 0 where
  pub before : List X
  pub behind : List X
  pub there : xs ≡ before ++ x ∷ behind
  pub long : length before ≡ k

split_at : {X : Type 0} (xs : List X) (k : ℕ) (x : X) → slice_get xs k ≡ Some x → SplitAt xs k x
split_at [] k x here = absurd (cc)
split_at (y ∷ ys) zero x here = record { before = []; behind = ys; there = ap (λ z. z ∷ ys) (same_Some y x here); long = refl }
split_at (y ∷ ys) (suc k) x here = let rest = split_at ys k x here in record {
  before = y ∷ rest.before;
  behind = rest.behind;
  there = ap (λ zs. y ∷ zs) rest.there;
  long = ap suc rest.long;
}

module _ (platform : PlatformFacts) (ms : List Member) (s : Settings) (apart : PathsDiffer ms) (best : IsBest true platform (participants ms) s) where
  abbrev everyone : List (List ℕ)
  everyone = map (λ m. m.path) (filter asks ms)

  -- each offer before theirs is refused
  offer_refused : (before behind : List Offer) → offers_of platform ≡ before ++ s.offer ∷ behind → All (λ o. o ≢ s.offer) before
      → (k : ℕ) (o : Offer) → slice_get before k ≡ Some o → (line : LineFacts) × RefusesOffer true ms o line
  offer_refused before behind there first k o here = elim (refused_or_fit true (offer_demands (participants ms)) o) as (λ _. (line : LineFacts) × RefusesOffer true ms o line) [
    | inr (inl line) ↦ (record { field = line.0; nodes = everyone }, (participants ms, all_named ms apart, inl line.1))
    | inr (inr unnamed) ↦ (record { field = unnamed.1.0; nodes = everyone }, (participants ms, all_named ms apart, inr (unnamed.0, unnamed.1.1)))
    | inl fit ↦ absurd ((best.best (settings_with true (participants ms) o fit s.place s.count)
        (meets_with true platform (participants ms) o fit s.place best.meets.loosely.heap s.count (k, inside, get_or_from_slice_get (offers_of platform) k o o at)
        best.meets.loosely.sound.place allowed best.meets.loosely.counted)).offer (record { index = k; here = at; before = behind_it }))
  ] where
    at : slice_get (offers_of platform) k ≡ Some o
    at = ap (λ os. slice_get os k) there ∙ (slice_get-append_left before (s.offer ∷ behind) k (slice_get_within before k o here) ∙ here)

    inside : k < length (offers_of platform)
    inside = slice_get_within (offers_of platform) k o at

    allowed : All (λ d. AllowsPlace d.memory d.usage best.meets.loosely.heap s.place.coherency) (place_demands (participants ms))
    allowed = All-map (λ d. AllowsPlace d.memory d.usage best.meets.loosely.heap s.place.coherency) place_demand (participants ms)
        (All-weaker (Covers best.meets.loosely.heap s) (λ p. AllowsPlace p.memory p.usage best.meets.loosely.heap s.place.coherency) (λ p covers. covers.place) (participants ms) best.meets.loosely.covers)

    behind_it : (j : ℕ) → slice_get (offers_of platform) j ≡ Some s.offer → k < j
    behind_it j is = elim (cases_lt k j) as (λ _. k < j) [
      | inl less ↦ less
      | inr most ↦ absurd (
          let less : j < length before = omega (arith, most, slice_get_within before k o here) in
          let earlier : slice_get before j ≡ Some s.offer = sym (slice_get-append_left before (s.offer ∷ behind) j less) ∙ (sym (ap (λ os. slice_get os j) there) ∙ is) in
          subst (λ o. o ≢ s.offer) (get_or_from_slice_get before j s.offer s.offer earlier) (first j s.offer less) refl)
    ]

  -- each place before theirs is
  place_refused : (q : HeapPlace) → IsPlace platform.heaps q.place q.heap → IsEarlier q.place s.place → (line : LineFacts) × RefusesPlace ms q line
  place_refused q is earlier = elim (refused_or_allowed q.heap q.place.coherency (place_demands (participants ms))) as (λ _. (line : LineFacts) × RefusesPlace ms q line) [
    | inl refused ↦ (record { field = refused.0; nodes = everyone }, (participants ms, all_named ms apart, refused.1))
    | inr allowed ↦ absurd ((best.best (record s { place = q.place }) (moved allowed)).place refl earlier)
  ] where
    moved : All (λ d. AllowsPlace d.memory d.usage q.heap q.place.coherency) (place_demands (participants ms)) → Meets platform (participants ms) (record s { place = q.place })
    moved allowed = record {
      loosely = record {
        heap = q.heap;
        sound = record { offer = best.meets.loosely.sound.offer; place = is; fit = best.meets.loosely.sound.fit };
        covers = λ k d below. record {
          fit = (best.meets.loosely.covers k d below).fit;
          place = All-unmap (λ d. AllowsPlace d.memory d.usage q.heap q.place.coherency) place_demand (participants ms) allowed k d below;
        };
        counted = best.meets.loosely.counted;
      };
      named = best.meets.named;
    }

  offers_before : (lines : List LineFacts) × HoldBefore (RefusesOffer true ms) (offers_of platform) s.offer lines
  offers_before =
      let up = up_to_first (offers_of platform) s.offer best.meets.loosely.sound.offer in
      let lines = collected (RefusesOffer true ms) up.before (all_of (λ o. (line : LineFacts) × RefusesOffer true ms o line) up.before (offer_refused up.before up.behind up.there up.first)) in
      (lines.0, record { before = up.before; behind = up.behind; there = up.there; first = up.first; each = lines.1 })

  places_before : (lines : List LineFacts) × RefusePlacesBefore platform ms s lines
  places_before = by ((listed_is_place platform.heaps s.place best.meets.loosely.heap).0 best.meets.loosely.sound.place) where
    at : HeapPlace
    at = record { place = s.place; heap = best.meets.loosely.heap }

    by : Contains (places_of platform.heaps) at → (lines : List LineFacts) × RefusePlacesBefore platform ms s lines
    by has = (lines.0, record { at = at; same = refl; each = record { before = parts.before; behind = parts.behind; there = parts.there; first = first; each = lines.1 } }) where
      here : slice_get (places_of platform.heaps) has.0 ≡ Some at
      here = slice_get-get_or (places_of platform.heaps) has.0 at has.1 ∙ ap (λ x. Some x) has.2

      parts : SplitAt (places_of platform.heaps) has.0 at
      parts = split_at (places_of platform.heaps) has.0 at here

      reads : (k : ℕ) (q : HeapPlace) → slice_get parts.before k ≡ Some q → slice_get (places_of platform.heaps) k ≡ Some q
      reads k q there = ap (λ ps. slice_get ps k) parts.there ∙ (slice_get-append_left parts.before (at ∷ parts.behind) k (slice_get_within parts.before k q there) ∙ there)

      earlier : (k : ℕ) (q : HeapPlace) → slice_get parts.before k ≡ Some q → IsEarlier q.place s.place
      earlier k q there =
          let less : k < has.0 = omega (arith, slice_get_within parts.before k q there, parts.long) in
          let ordered : IsEarlier (get_or (places_of platform.heaps) k at).place (get_or (places_of platform.heaps) has.0 at).place = listed_in_order platform.heaps k has.0 at less has.1 in
          subst (λ x. IsEarlier q.place x.place) (get_or_from_slice_get (places_of platform.heaps) has.0 at at here)
          (subst (λ x. IsEarlier x.place (get_or (places_of platform.heaps) has.0 at).place) (get_or_from_slice_get (places_of platform.heaps) k q at (reads k q there)) ordered)

      lines : (lines : List LineFacts) × AllZip (RefusesPlace ms) parts.before lines
      lines = collected (RefusesPlace ms) parts.before (all_of (λ q. (line : LineFacts) × RefusesPlace ms q line) parts.before (λ k q there.
          place_refused q ((listed_is_place platform.heaps q.place q.heap).1 (
            k,
            slice_get_within (places_of platform.heaps) k q (reads k q there),
            get_or_from_slice_get (places_of platform.heaps) k q q (reads k q there),
          )) (earlier k q there)))

      first : All (λ q. q ≢ at) parts.before
      first = all_of (λ q. q ≢ at) parts.before (λ k q there same. no_place_before_itself s.place (subst (λ x. IsEarlier x.place s.place) same (earlier k q there)))

-- lines for what stands before the settings of a choice; none in an attached domain
lines_before : (platform : PlatformFacts) (terms : Option Terms) (ms : List Member) (s : Settings) (earlier : List (List (List Item))) → PathsDiffer ms → IsBestFor platform terms ms s
    → (certificate : CertificateFacts) × (certificate.earlier ≡ earlier) × RefuseBeforeFor platform terms ms s certificate
lines_before platform None ms s earlier apart best =
    let offers = offers_before platform ms s apart best in
    let places = places_before platform ms s apart best in
    (record { earlier = earlier; offers = offers.0; places = places.0 }, refl, record { offers = offers.1; places = places.1 })
lines_before platform (Some terms) ms s earlier apart best = (record { earlier = earlier; offers = []; places = [] }, refl, record { offers = refl; places = refl })

pub certified : (platform : PlatformFacts) (terms : Option Terms) (d : Forest Member) (selection : List ℕ) (s : Settings) → FitTerms platform terms → Apart terms d
    → IsChosen (MeetsFor platform terms) (IsBestFor platform terms) d selection s → (certificate : CertificateFacts) × IsCertificate platform terms d selection s certificate
certified platform terms d selection s fit apart chosen =
    let earlier = earlier_refuted platform terms fit selection d chosen.members chosen.selects apart chosen.first in
    let lines = lines_before platform terms (settled chosen.members) s earlier.0
    (own terms (settled chosen.members) (apart selection chosen.members chosen.selects.leads)) chosen.best in (
      lines.0,
      record {
        members = chosen.members;
        selects = chosen.selects;
        earlier = subst (RefutesEarlier (IsConflictFor platform terms) d selection) (sym lines.1) earlier.1;
        before = lines.2;
      },
    )
