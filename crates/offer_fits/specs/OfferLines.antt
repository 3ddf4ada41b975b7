-- Which lines of the conflict table are true of participants for an offer.
use Rattle.std.specs.Prelude.{◌≡◌, ℕ, ◌^◌, ◌<◌, ◌≤◌, List, All, Any, false}
use Rattle.sysmem_counts.specs.declared.field.Field.{Field}
use Rattle.sysmem_counts.specs.declared.field.Field.TheVariants.{PixelFormat, ColorSpaces}
use Rattle.sysmem_counts.specs.declared.field.Field.TheVariants.{MaxSizeBytes}
use Rattle.sysmem_formats.specs.declared.offer.Offer.{Offer}
use Rattle.sysmem_formats.specs.Layout.{image_bytes_of}
use Rattle.sysmem_image.specs.declared.bounds.ImageBounds.{ImageBounds}
use Rattle.sysmem_image.specs.Lines.{FitsWidth, FitsHeight, FitsRow}
use Rattle.sysmem_image.specs.Lines.{AlignmentsMeet, DivisorsMeet, IsBoundsLine}
use Rattle.offer_fits.specs.Demands.{OfferDemand}
use Rattle.offer_fits.specs.Offers.{has_format, has_colour, bounds_asked}

-- no size holds the corner of these bounds, is large enough for each participant and small enough
-- for each
abbrev pub SizeAbove : Offer → List ImageBounds → List OfferDemand → Type 0
SizeAbove o es ds = (w h r n : ℕ) → FitsWidth o es w → FitsHeight o es h → FitsRow o es w r
    → image_bytes_of o r h ≤ n → 1 ≤ n → n < 2 ^ 64
    → All (λ d. d.min_size_bytes ≤ n) ds → All (λ d. n ≤ d.max_size_bytes) ds → ⊥

-- the line of the conflict table that the field heads is true of the participants for the offer
abbrev pub IsOfferLine : Field → Offer → List OfferDemand → Type 0
IsOfferLine PixelFormat o ds = Any (λ d. has_format o d ≡ false) ds
IsOfferLine ColorSpaces o ds = Any (λ d. has_colour o d ≡ false) ds
IsOfferLine MaxSizeBytes o ds = AlignmentsMeet o (bounds_asked o ds)
    × DivisorsMeet o (bounds_asked o ds) × SizeAbove o (bounds_asked o ds) ds
IsOfferLine field o ds = IsBoundsLine field o (bounds_asked o ds)
