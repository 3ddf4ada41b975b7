-- For which participants what is kept stands.
use Rattle.std.specs.Prelude.{◌≡◌, ℕ, List, length, All, Some, slice_get}
use Rattle.sysmem_counts.specs.Bounds as counts
use Rattle.sysmem_counts.specs.declared.field.Field.{Field}
use Rattle.sysmem_counts.specs.declared.field.Field.TheVariants.{PixelFormat, ColorSpaces}
use Rattle.sysmem_formats.specs.declared.offer.Offer.{Offer}
use Rattle.sysmem_image.specs.Lines.{IsSteady}
use Rattle.sysmem_image.specs.Merged.{MergedOf}
use Rattle.sysmem_memory.specs.Place as places
pub use Rattle.offer_fits.specs.Offers.{IsListed}
pub use Rattle.offer_fits.specs.Sizes.{AreSizes}
use Rattle.sysmem_merge.specs.declared.kept.KeptBounds.{KeptBounds}
use Rattle.sysmem_merge.specs.declared.kept.KeptBounds.TheVariants.{Merged, Refused}
use Rattle.sysmem_merge.specs.declared.kept.KeptOffer.{KeptOffer}
use Rattle.sysmem_merge.specs.Demands.{OfferDemand, counts_asked, place_demands, offer_demands}
use Rattle.sysmem_merge.specs.Kept.{Kept}
use Rattle.sysmem_merge.specs.Offers.{bounds_asked}
use Rattle.sysmem_merge.specs.Offers.{is_format_named, is_modifier_named, is_colour_named}
use Rattle.sysmem_merge.specs.Reasons.{IsOfferLine}
use Rattle.negotiation_inputs.specs.Participant.{Participant}
use Rattle.negotiation_inputs.specs.Platform.{PlatformFacts, offers_of}

-- a line that stays true of more participants
abbrev pub IsLasting : Field → Type 0
IsLasting PixelFormat = Unit {0}
IsLasting ColorSpaces = Unit {0}
IsLasting field = IsSteady field

-- the merged bounds of participants that all take the offer, or a lasting line that is true of them
abbrev pub AreKeptBounds : Offer → List OfferDemand → KeptBounds → Type 0
AreKeptBounds o ds (Merged b) = MergedOf o (bounds_asked o ds) b × All (IsListed o) ds
AreKeptBounds o ds (Refused field) = IsLasting field × IsOfferLine field o ds

-- what is kept of an offer stands for these participants
pub record IsKept (o : Offer) (ds : List OfferDemand) (kept : KeptOffer) : Type 0 where
  pub bounds : AreKeptBounds o ds kept.bounds
  pub format : kept.format_named ≡ is_format_named o ds
  pub modifier : kept.modifier_named ≡ is_modifier_named o ds
  pub colour : kept.colour_named ≡ is_colour_named o ds

-- what is kept of each offer of a list, in its order
pub record AreKept (os : List Offer) (ds : List OfferDemand) (kept : List KeptOffer) : Type 0 where
  pub many : length kept ≡ length os
  pub each : (k : ℕ) (o : Offer) (one : KeptOffer) → slice_get os k ≡ Some o
      → slice_get kept k ≡ Some one → IsKept o ds one

-- what is kept stands for these participants on the platform, part by part
pub record StandsFor (kept : Kept) (platform : PlatformFacts) (ps : List Participant) : Type 0 where
  pub on : kept.platform ≡ platform
  pub counts : counts.IsTallyOf kept.counts (counts_asked ps)
  pub places : places.AreDomainsLeft kept.places platform.heaps (place_demands ps)
  pub offers : AreKept (offers_of platform) (offer_demands ps) kept.offers
  pub sizes : AreSizes (offer_demands ps) kept.least_size kept.greatest_size
  pub many : kept.added ≡ length ps
