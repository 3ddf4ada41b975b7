-- Which kind of conflict comes first: a count line, a line for each
-- place, or a line for each offer.
use Rattle.std.proofs.Common.{◌≡◌, ◌<◌, inl, inr, ℕ, zero, suc, Bool, true, false, List, [], ◌∷◌, Option, Some, None, slice_get, refl, sym, subst, arith}
use Rattle.std.specs.Prelude.{◌↔◌, Any, Contains, IfSome, IsSomeAnd, IsTrue, is_none}
use Rattle.std.specs.List.{AllZip, cons_option}
use Rattle.std.proofs.lemmas.List.Elements.{All-nil, All-cons, All-map}
use Rattle.std.proofs.lemmas.Option.{same_Some, none-some}
use Rattle.list_lemmas.proofs.CallerLemmas.{Any-here, Any-later, Any-not_All, find_passes}
use Rattle.sysmem_counts.proofs.CallerLemmas.{line_sound}
use Rattle.sysmem_counts.specs.Counts.{IsCountLine, IsCounted, IsFixedCountLine}
use Rattle.sysmem_counts.specs.declared.constraints.CountConstraints.{CountConstraints}
use Rattle.sysmem_counts.specs.declared.field.Field.{Field}
use Rattle.sysmem_counts.specs.declared.field.Field.TheVariants.{MinBufferCount, MaxBufferCount}
use Rattle.sysmem_formats.specs.declared.offer.Offer.{Offer}
use Rattle.sysmem_memory.specs.Listed.{HeapPlace, places_of}
use Rattle.sysmem_memory.specs.Place.{IsRefused}
use Rattle.sysmem_memory.specs.PlaceTable.{AllowsPlace, first_refusing, place_fields, refuses_by}
use Rattle.sysmem_memory.proofs.CallerLemmas.{listed_is_place, none_refuses}
use Rattle.sysmem_merge.specs.declared.reason.Reason.{Reason}
use Rattle.sysmem_merge.specs.declared.reason.Reason.TheVariants as reasons
use Rattle.offer_fits.specs.Demands.{counts_asked, offer_demands, place_demand, place_demands}
use Rattle.sysmem_merge.specs.First.{IsFirstOf}
use Rattle.sysmem_merge.specs.Reasons.{IsFirstReason, IsOfferRefused, IsReason, reason_rank}
use Rattle.negotiation_inputs.specs.Participant.{Participant}
use Rattle.negotiation_inputs.specs.Platform.{PlatformFacts, offers_of}
use Rattle.sysmem_tree.specs.Forest.{Forest, choices, settled}
use Rattle.sysmem_tree.specs.Shape.{Member}
use Rattle.conflict_finding.specs.declared.refusals.Refusals.{Refusals}
use Rattle.conflict_finding.specs.declared.refusals.Refusals.TheVariants.{Whole, UpTo}
use Rattle.verdict_claims.specs.declared.conflict.Conflict.TheVariants.{Places, Offers}
use Rattle.verdict_claims.specs.Conflict.{IsConflict, RefusesOffer, RefusesPlace}
use Rattle.verdict_claims.specs.FirstConflict.{IsFirstConflict, IsOfferLineGiven, IsPlaceLineGiven}
use Rattle.verdict_claims.specs.Line.{LineFacts}
use Rattle.verdict_claims.specs.Members.{participants}
use Rattle.conflict_finding.specs.Refusals.{AreRefusals, Ends, EndsAt, SharePlace}
use Rattle.verdict_claims.proofs.Conflicts.{zip_has}
use Rattle.conflict_finding.proofs.FoundConflicts.{ended, there_is}
use Rattle.verdict_claims.proofs.OnRoll.{place_told}

module _ (whole : Bool) (platform : PlatformFacts) where
  -- where a number suits, no count line is true
  no_count_line : (ps : List Participant) (count : ℕ) → IsCounted (counts_asked ps) count → (field : Field) → ¬ (IsCountLine field (counts_asked ps))
  no_count_line ps count counted field line = line_sound field (counts_asked ps) line count counted

  -- a member of whom something is said is one of whom it is
  any_at : (P : Participant → Type 0) (ms : List Member) (i : ℕ) (m : Member) → slice_get ms i ≡ Some m → IsSomeAnd m.constraints P → Any P (participants ms)
  any_at P [] i m here says = absurd (none-some m here)
  any_at P (x ∷ ms) zero m here says = by x.constraints (subst (λ y. IsSomeAnd y.constraints P) (sym (same_Some x m here)) says) where
    by : (c : Option Participant) → IsSomeAnd c P → Any P (cons_option c (participants ms))
    by None h = absurd h
    by (Some p) h = Any-here P p (participants ms) h
  any_at P (x ∷ ms) (suc i) m here says = by x.constraints (any_at P ms i m here says) where
    by : (c : Option Participant) → Any P (participants ms) → Any P (cons_option c (participants ms))
    by None h = h
    by (Some p) h = Any-later P p (participants ms) h

  module _ (ms : List Member) (count : ℕ) (counted : IsCounted (counts_asked (participants ms)) count) where
    place_refused : (p : HeapPlace) (line : LineFacts) → IsPlaceLineGiven ms p line → IsRefused p.heap p.place.coherency (place_demands (participants ms))
    place_refused p line given = (
      line.field,
      (place_told p.heap p.place.coherency line.field (participants ms) true
          ((λ is. any_at (λ q. refuses_by line.field q.memory q.usage p.heap p.place.coherency ≡ true) ms given.first.index given.first.first given.first.here (by given.first.first.constraints given.first.says)), (λ any. refl))).0 refl,
    ) where
      by : (c : Option Participant) → IsSomeAnd c (λ q. first_refusing q.memory q.usage p.heap p.place.coherency ≡ Some line.field)
          → IsSomeAnd c (λ q. refuses_by line.field q.memory q.usage p.heap p.place.coherency ≡ true)
      by None h = h
      by (Some q) h = subst (λ o. IfSome o (λ f. refuses_by f q.memory q.usage p.heap p.place.coherency ≡ true)) h (find_passes (λ f. refuses_by f q.memory q.usage p.heap p.place.coherency) place_fields)

    -- a line for each place, where a count suits
    pub places_first : (lines : List LineFacts) → AllZip (IsPlaceLineGiven ms) (places_of platform.heaps) lines → IsFirstReason whole platform (participants ms) reasons.NoPlace
    places_first lines zip = record {
      holds = λ q h place.
          let found = zip_has (IsPlaceLineGiven ms) (places_of platform.heaps) lines (record { place = q; heap = h }) zip ((listed_is_place platform.heaps q h).0 place) in
          place_refused (record { place = q; heap = h }) found.0 found.1;
      first = before;
    } where
      before : (other : Reason) → reason_rank other < 2 → ¬ (IsReason whole platform (participants ms) other)
      before (reasons.Count field) below line = no_count_line (participants ms) count counted field line
      before reasons.NoPlace below line = absurd (omega (arith, below))
      before reasons.NoOffer below line = absurd (omega (arith, below))

    -- a line for each offer, where a place is shared too
    pub offers_first : (lines : List LineFacts) (p : HeapPlace) → Contains (places_of platform.heaps) p → SharePlace ms p → AllZip (IsOfferLineGiven whole ms) (offers_of platform) lines
        → IsFirstReason whole platform (participants ms) reasons.NoOffer
    offers_first lines p listed share zip = record { holds = holds; first = before } where
      holds : (o : Offer) → Contains (offers_of platform) o → IsOfferRefused whole o (offer_demands (participants ms))
      holds o has =
          let found = zip_has (IsOfferLineGiven whole ms) (offers_of platform) lines o zip has in
          elim found.1.first.holds as (λ _. IsOfferRefused whole o (offer_demands (participants ms))) [
            | inl line ↦ inl (found.0.field, line)
            | inr unnamed ↦ inr (unnamed.0, (found.0.field, unnamed.1))
          ]

      before : (other : Reason) → reason_rank other < 3 → ¬ (IsReason whole platform (participants ms) other)
      before (reasons.Count field) below line = no_count_line (participants ms) count counted field line
      before reasons.NoPlace below none =
          let refused = none p.place p.heap ((listed_is_place platform.heaps p.place p.heap).1 listed) in
          Any-not_All (λ d. refuses_by refused.0 d.memory d.usage p.heap p.place.coherency ≡ true) (λ d. AllowsPlace d.memory d.usage p.heap p.place.coherency) (place_demands (participants ms))
          (λ d refuses allows. (let no' = none_refuses d.memory d.usage p.heap p.place.coherency allows refused.0 in cc (no', refuses))) refused.1
          (All-map (λ d. AllowsPlace d.memory d.usage p.heap p.place.coherency) place_demand (participants ms) share)
      before reasons.NoOffer below line = absurd (omega (arith, below))

-- of a count that is fixed
module _ (count : ℕ) (ps : List CountConstraints) where
  abbrev Line : Field → Type 0
  Line field = IsFixedCountLine count field ps

  pub too_few : Line MinBufferCount → IsFirstOf Line (MinBufferCount ∷ MaxBufferCount ∷ []) MinBufferCount
  too_few line = record { earlier = []; later = MaxBufferCount ∷ []; listed = refl; holds = line; before = All-nil (λ f. ¬ (Line f)) }

  pub too_many : (t : Bool) → t ≡ false → IsTrue t ↔ Line MinBufferCount → Line MaxBufferCount → IsFirstOf Line (MinBufferCount ∷ MaxBufferCount ∷ []) MaxBufferCount
  too_many t no' test line = record {
    earlier = MinBufferCount ∷ [];
    later = [];
    listed = refl;
    holds = line;
    before = All-cons (λ f. ¬ (Line f)) MinBufferCount [] (λ few. (let yes' : t ≡ true = test.1 few in absurd (cc))) (All-nil (λ f. ¬ (Line f)));
  }

-- lines that a finder gives for places, and for offers, refuse them
zip_weaker : {X : Type 0} (R Q : X → LineFacts → Type 0) → ((x : X) (line : LineFacts) → R x line → Q x line) → (xs : List X) (lines : List LineFacts) → AllZip R xs lines → AllZip Q xs lines
zip_weaker R Q weaker [] [] zip = tt
zip_weaker R Q weaker [] (l ∷ lines) zip = absurd zip
zip_weaker R Q weaker (x ∷ xs) [] zip = absurd zip
zip_weaker R Q weaker (x ∷ xs) (l ∷ lines) zip = (weaker x l zip.0, zip_weaker R Q weaker xs lines zip.1)

pub places_refuse : (ms : List Member) (xs : List HeapPlace) (lines : List LineFacts) → AllZip (IsPlaceLineGiven ms) xs lines → AllZip (RefusesPlace ms) xs lines
places_refuse ms = zip_weaker (IsPlaceLineGiven ms) (RefusesPlace ms) (λ p line given. given.refuses)

pub offers_refuse : (whole : Bool) (ms : List Member) (xs : List Offer) (lines : List LineFacts) → AllZip (IsOfferLineGiven whole ms) xs lines → AllZip (RefusesOffer whole ms) xs lines
offers_refuse whole ms = zip_weaker (IsOfferLineGiven whole ms) (RefusesOffer whole ms) (λ o line given. given.refuses)

-- also where they go up to one
pub refusals_weaker : {X : Type 0} (R Q : X → LineFacts → Type 0) → ((x : X) (line : LineFacts) → R x line → Q x line) → (End : X → Type 0) (xs : List X) (r : Refusals) → AreRefusals R End xs r → AreRefusals Q End xs r
refusals_weaker R Q weaker End xs (Whole lines) are = zip_weaker R Q weaker xs lines are
refusals_weaker R Q weaker End xs (UpTo lines) e = record {
  before = e.before;
  at = e.at;
  behind = e.behind;
  there = e.there;
  each = zip_weaker R Q weaker e.before lines e.each;
  end = e.end;
}

-- what is found of an initial domain: lines of all places, where a count suits; or lines of all
-- offers, where lines of places end at one that is shared
module _ (platform : PlatformFacts) (d : Forest Member) (count : ℕ) (counted : IsCounted (counts_asked (participants (settled d))) count) where
  pub places_found : (lines : List LineFacts) → AllZip (IsPlaceLineGiven (settled d)) (places_of platform.heaps) lines → IsFirstConflict platform d (Places lines)
  places_found lines zip = (places_first (is_none (choices d)) platform (settled d) count counted lines zip, zip)

  pub offers_found : (whole : Bool) (places lines : List LineFacts) → whole ≡ is_none (choices d)
      → EndsAt (IsPlaceLineGiven (settled d)) (Ends None (λ (p : HeapPlace). p.place) (SharePlace (settled d))) (places_of platform.heaps) places
      → AllZip (IsOfferLineGiven whole (settled d)) (offers_of platform) lines → IsFirstConflict platform d (Offers lines)
  offers_found whole places lines is e zip = subst (λ w. IsFirstReason w platform (participants (settled d)) reasons.NoOffer × AllZip (IsOfferLineGiven w (settled d)) (offers_of platform) lines) is
      (offers_first whole platform (settled d) count counted lines e.at (there_is (places_of platform.heaps) e.before e.behind e.at e.there) (ended (λ (p : HeapPlace). p.place) (SharePlace (settled d)) e.at e.end) zip, zip)

pub offers_conflict : (platform : PlatformFacts) (d : Forest Member) (whole : Bool) (lines : List LineFacts) → whole ≡ is_none (choices d) → AllZip (IsOfferLineGiven whole (settled d)) (offers_of platform) lines
    → IsConflict platform d (Offers lines)
offers_conflict platform d whole lines is zip = subst (λ w. AllZip (RefusesOffer w (settled d)) (offers_of platform) lines) is (offers_refuse whole (settled d) (offers_of platform) lines zip)
