-- Where a list of participants has no settings any more, and why.
use Rattle.std.specs.Prelude.{◌≡◌, ℕ, ◌+◌, ◌<◌, ◌⊎◌, Bool, true, false, List, length, take, drop}
use Rattle.std.specs.Prelude.{Option, Some, None}
use Rattle.std.specs.Prelude.{IfSome, IsSome, IsSomeAnd, option_map, slice_get}
use Rattle.std.specs.Option.{unwrap_or}
use Rattle.sysmem_counts.specs.declared.field.Field.{Field}
use Rattle.sysmem_formats.specs.declared.offer.Offer.{Offer}
use Rattle.sysmem_memory.specs.Heap.{HeapFacts}
use Rattle.sysmem_memory.specs.PlaceTable.{refuses_by}
use Rattle.sysmem_merge.specs.Best.{IsBest, IsUnmet}
use Rattle.offer_fits.specs.Demands.{offer_demands}
use Rattle.sysmem_merge.specs.First.{IsFirstOf}
use Rattle.sysmem_merge.specs.OfferRead.{IsRefusingLine, offer_lines}
use Rattle.sysmem_merge.specs.Reasons.{IsFirstReason}
use Rattle.sysmem_merge.specs.declared.reason.Reason.{Reason}
use Rattle.sysmem_merge.specs.declared.reason.Reason.TheVariants.{Count, NoPlace, NoOffer}
use Rattle.sysmem_merge.specs.declared.settings.Settings.{Settings}
use Rattle.negotiation_inputs.specs.Participant.{Participant}
use Rattle.negotiation_inputs.specs.Platform.{PlatformFacts}
use Rattle.flat_negotiation.specs.Own.{IsOwnOffer, or_else}
use Rattle.flat_negotiation.specs.Takes.{take_format, told_line}
use Rattle.flat_negotiation.specs.declared.unsettled.Refusal.{Refusal}
use Rattle.flat_negotiation.specs.declared.unsettled.ListStop.{ListStop}

-- those up to the participant, where it is one of the list
abbrev pub up_to : ℕ → List Participant → List Participant
up_to who ps = take (who + 1) ps

-- the participant by itself, where it is one of the list
abbrev pub alone : ℕ → List Participant → List Participant
alone who ps = take 1 (drop who ps)

-- whose the index is: of a participant, or, where all could share settings but for a name, of none
abbrev pub IsWho : Bool → ℕ → ℕ → Type 0
IsWho true many who = who ≡ many
IsWho false many who = who < many

-- the participants before, if there are any, can share settings, for the first reason not with this
-- one too
pub record IsStop (platform : PlatformFacts) (ps : List Participant) (stop : ListStop) : Type 0 where
  pub who : IsWho stop.whole (length ps) stop.who
  pub shared : IfSome stop.shared (IsBest false platform (take stop.who ps))
  pub before : (stop.who ≡ 0) ⊎ IsSome stop.shared
  pub unmet : IsUnmet stop.whole platform (up_to stop.who ps)
  pub reason : IsFirstReason stop.whole platform (up_to stop.who ps) stop.reason

-- no settings meet them, for this reason first
pub record IsUnmetFor (platform : PlatformFacts) (ps : List Participant)
    (reason : Reason) : Type 0 where
  pub unmet : IsUnmet false platform ps
  pub first : IsFirstReason false platform ps reason

-- why the participant can't be met even by itself; none where it can, or where nobody is in the way
-- alone
abbrev pub IsLone : PlatformFacts → List Participant → ListStop → Option Reason → Type 0
IsLone platform ps stop None =
    (stop.whole ≡ true) ⊎ ((s : Settings) × IsBest false platform (alone stop.who ps) s)
IsLone platform ps stop (Some reason) =
    (stop.whole ≡ false) × IsUnmetFor platform (alone stop.who ps) reason

-- those of whom is told: the participant by itself, where it can't be met so, and else all up to it
abbrev pub told_of : ListStop → Option Reason → List Participant → List Participant
told_of stop None ps = up_to stop.who ps
told_of stop (Some reason) ps = alone stop.who ps

-- the field refuses the participant the place of these settings
pub record IsPlaceField (platform : PlatformFacts) (p : Participant) (s : Settings)
    (field : Field) : Type 0 where
  pub heap : HeapFacts
  pub has : slice_get platform.heaps s.place.heap ≡ Some heap
  pub refuses : refuses_by field p.memory p.usage heap s.place.coherency ≡ true

-- the field is told of the first line that is true of them for the offer
pub record IsOfferField (whole : Bool) (ps : List Participant) (o : Offer)
    (field : Field) : Type 0 where
  pub line : Field
  pub first : IsFirstOf (IsRefusingLine whole o (offer_demands ps)) offer_lines line
  pub told : field ≡ told_line (take_format o ps) line

-- the offer that those before share
abbrev pub shared_offer : ListStop → Option Offer
shared_offer stop = option_map (λ s. s.offer) stop.shared

-- the offer of which is told: the image that the participant comes nearest to, where it gets none
-- even by itself; else, and where there is no such image, that which those before share
abbrev pub IsToldOffer : PlatformFacts → List Participant → ListStop → Option Reason → Option Offer
    → Type 0
IsToldOffer platform ps stop (Some NoOffer) offer = (own : Option Offer)
    × IsOwnOffer platform (alone stop.who ps) own
    × (offer ≡ or_else own (shared_offer stop))
IsToldOffer platform ps stop why offer = offer ≡ shared_offer stop

-- what the field says, by the reason: it is the count's own; or the participant's, which refuses it
-- the place that those before share; or it is told of the first line that is true of the offer
abbrev pub IsFieldOf : PlatformFacts → List Participant → Refusal → Reason → Type 0
IsFieldOf platform ps r (Count own) = r.field ≡ own
IsFieldOf platform ps r NoPlace =
    IsSomeAnd (slice_get ps r.stop.who)
    (λ p. IsSomeAnd r.stop.shared (λ s. IsPlaceField platform p s r.field))
IsFieldOf platform ps r NoOffer =
    IsSomeAnd r.offer (λ o. IsOfferField r.stop.whole (told_of r.stop r.lone ps) o r.field)

-- the reason that is told: of the participant by itself, where it can't be met so
abbrev pub told_reason : Refusal → Reason
told_reason r = unwrap_or r.lone r.stop.reason

-- no settings meet them; where they stop having some, whether the participant can be met by itself,
-- and the offer and the field
pub record IsBlamed (platform : PlatformFacts) (ps : List Participant)
    (refusal : Refusal) : Type 0 where
  pub unmet : IsUnmet true platform ps
  pub stop : IsStop platform ps refusal.stop
  pub lone : IsLone platform ps refusal.stop refusal.lone
  pub offer : IsToldOffer platform ps refusal.stop refusal.lone refusal.offer
  pub field : IsFieldOf platform ps refusal (told_reason refusal)
