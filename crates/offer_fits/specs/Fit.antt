-- An offer with its bounds and a size, apart from places and counts.
use Rattle.std.specs.Prelude.{◌≡◌, ◌^◌, ◌<◌, ◌≤◌, List, All}
use Rattle.sysmem_formats.specs.declared.offer.Offer.{Offer}
use Rattle.sysmem_formats.specs.declared.offer.Offer.TheVariants.{NoImage, Image as image}
use Rattle.sysmem_image.specs.declared.bounds.ImageBounds.{ImageBounds}
use Rattle.sysmem_image.specs.Bounds.{IsOwn, IsTighter}
use Rattle.offer_fits.specs.declared.fit.Fit.{Fit}
use Rattle.offer_fits.specs.Demands.{OfferDemand}
use Rattle.offer_fits.specs.Offers.{AcceptsOffer}
use Rattle.offer_fits.specs.Sound.{HoldsImage}

-- without an image the bounds are those of no entry
abbrev pub OwnWithoutImage : Offer → ImageBounds → Type 0
OwnWithoutImage NoImage b = IsOwn NoImage b
OwnWithoutImage (image pair colour) b = Unit {0}

-- a size of 64 bits that holds an image which the bounds admit and which is as large as they ask
-- for
pub record IsSoundFit (t : Fit) : Type 0 where
  pub some : 1 ≤ t.size_bytes
  pub fits : t.size_bytes < 2 ^ 64
  pub own : OwnWithoutImage t.offer t.bounds
  pub holds : HoldsImage t.offer t.bounds t.size_bytes

-- one participant accepts the offer, the bounds and the size
pub record CoversFit (t : Fit) (d : OfferDemand) : Type 0 where
  pub offer : AcceptsOffer t.offer t.bounds d
  pub min_size : d.min_size_bytes ≤ t.size_bytes
  pub max_size : t.size_bytes ≤ d.max_size_bytes

-- an offer, bounds and a size that suit all of these participants, but for the names of the image
pub record MeetsFit (ds : List OfferDemand) (t : Fit) : Type 0 where
  pub sound : IsSoundFit t
  pub covers : All (CoversFit t) ds

-- t has no smaller size, and no bounds that ask for less
pub record IsNoBetterFit (t s : Fit) : Type 0 where
  pub size : s.size_bytes ≤ t.size_bytes
  pub bounds : IsTighter t.bounds s.bounds

-- the least size and the least bounds of an offer that suit these participants
pub record IsBestFit (o : Offer) (ds : List OfferDemand) (s : Fit) : Type 0 where
  pub offer : s.offer ≡ o
  pub meets : MeetsFit ds s
  pub best : (t : Fit) → t.offer ≡ o → MeetsFit ds t → IsNoBetterFit t s
