-- Why no settings meet participants: a conflict that is true of them.
use Rattle.std.specs.Prelude.{◌≡◌, ◌⊎◌, ◌≢◌, ℕ, ◌<◌, List, Bool, true, false, Contains}
use Rattle.sysmem_counts.specs.Counts.{IsCountLine}
use Rattle.sysmem_counts.specs.declared.field.Field.{Field}
use Rattle.sysmem_counts.specs.declared.field.Field.TheVariants.{MaxBufferCount}
use Rattle.sysmem_counts.specs.declared.field.Field.TheVariants.{UnnamedPixelFormat}
use Rattle.sysmem_counts.specs.declared.field.Field.TheVariants.{UnnamedPixelFormatModifier}
use Rattle.sysmem_counts.specs.declared.field.Field.TheVariants.{UnnamedColorSpace}
use Rattle.sysmem_formats.specs.declared.offer.Offer.{Offer}
use Rattle.sysmem_formats.specs.declared.offer.Offer.TheVariants.{NoImage}
use Rattle.sysmem_memory.specs.Place.{HasNoPlace}
pub use Rattle.offer_fits.specs.OfferLines.{SizeAbove, IsOfferLine}
use Rattle.sysmem_merge.specs.declared.reason.Reason.{Reason}
use Rattle.sysmem_merge.specs.declared.reason.Reason.TheVariants.{Count, NoPlace, NoOffer}
use Rattle.sysmem_merge.specs.Demands.{OfferDemand, counts_asked, place_demands, offer_demands}
use Rattle.sysmem_merge.specs.Offers.{is_format_named, is_modifier_named, is_colour_named}
use Rattle.negotiation_inputs.specs.Participant.{Participant}
use Rattle.negotiation_inputs.specs.Platform.{PlatformFacts, offers_of}

-- no participant names the format, the modifier or the colour space of an image
abbrev pub IsUnnamedLine : Field → Offer → List OfferDemand → Type 0
IsUnnamedLine UnnamedPixelFormat o ds = (o ≢ NoImage) × (is_format_named o ds ≡ false)
IsUnnamedLine UnnamedPixelFormatModifier o ds = (o ≢ NoImage) × (is_modifier_named o ds ≡ false)
IsUnnamedLine UnnamedColorSpace o ds = (o ≢ NoImage) × (is_colour_named o ds ≡ false)
IsUnnamedLine _ o ds = ⊥

-- a line is true of the participants for the offer; an unnamed one counts where
-- they are all that a decision has
abbrev pub IsOfferRefused : Bool → Offer → List OfferDemand → Type 0
IsOfferRefused whole o ds =
    ((field : Field) × IsOfferLine field o ds)
    ⊎ ((whole ≡ true) × ((field : Field) × IsUnnamedLine field o ds))

-- each offer of a list is refused
abbrev pub AreOffersRefused : Bool → List Offer → List OfferDemand → Type 0
AreOffersRefused whole os ds = (o : Offer) → Contains os o → IsOfferRefused whole o ds

-- what a reason says of the participants
abbrev pub IsReason : Bool → PlatformFacts → List Participant → Reason → Type 0
IsReason whole platform ps (Count field) = IsCountLine field (counts_asked ps)
IsReason whole platform ps NoPlace = HasNoPlace platform.heaps (place_demands ps)
IsReason whole platform ps NoOffer = AreOffersRefused whole (offers_of platform) (offer_demands ps)

-- a reason's place in their order: a maximum count, the limit of the count, places, offers
abbrev pub reason_rank : Reason → ℕ
reason_rank (Count MaxBufferCount) = 0
reason_rank (Count _) = 1
reason_rank NoPlace = 2
reason_rank NoOffer = 3

-- a reason that is true of the participants, where none before it is
pub record IsFirstReason (whole : Bool) (platform : PlatformFacts) (ps : List Participant)
    (reason : Reason) : Type 0 where
  pub holds : IsReason whole platform ps reason
  pub first : (other : Reason) → reason_rank other < reason_rank reason
      → ¬ (IsReason whole platform ps other)
