-- What is read of an offer, and the lines of the conflict table about it in their order.
use Rattle.std.specs.Prelude.{◌≡◌, ◌⊎◌, not, Bool, true, List, [], ◌∷◌, ◌++◌}
use Rattle.std.specs.List.{list_any}
use Rattle.sysmem_counts.specs.declared.field.Field.{Field}
use Rattle.sysmem_counts.specs.declared.field.Field.TheVariants.{PixelFormat, ColorSpaces}
use Rattle.sysmem_counts.specs.declared.field.Field.TheVariants.{MaxSizeBytes, UnnamedPixelFormat}
use Rattle.sysmem_counts.specs.declared.field.Field.TheVariants.{UnnamedPixelFormatModifier}
use Rattle.sysmem_counts.specs.declared.field.Field.TheVariants.{UnnamedColorSpace}
use Rattle.sysmem_formats.specs.declared.offer.Offer.{Offer}
use Rattle.sysmem_image.specs.Lines.{bounds_lines}
use Rattle.sysmem_image.specs.Read.{AreRead}
use Rattle.sysmem_merge.specs.declared.offer_read.OfferRead.{OfferRead}
use Rattle.sysmem_merge.specs.Aggregate.{AreSizes}
use Rattle.sysmem_merge.specs.Demands.{OfferDemand}
use Rattle.sysmem_merge.specs.Offers.{has_format, has_colour, bounds_asked}
use Rattle.sysmem_merge.specs.Offers.{is_format_named, is_modifier_named, is_colour_named}
use Rattle.sysmem_merge.specs.Reasons.{IsOfferLine, IsUnnamedLine}

-- what is read of an offer stands for these participants
pub record IsOfferRead (o : Offer) (ds : List OfferDemand) (read : OfferRead) : Type 0 where
  pub offer : read.offer ≡ o
  pub bounds : AreRead o (bounds_asked o ds) read.bounds
  pub format : read.format_refused ≡ list_any (λ d. not (has_format o d)) ds
  pub colour : read.colour_refused ≡ list_any (λ d. not (has_colour o d)) ds
  pub format_named : read.format_named ≡ is_format_named o ds
  pub modifier_named : read.modifier_named ≡ is_modifier_named o ds
  pub colour_named : read.colour_named ≡ is_colour_named o ds
  pub sizes : AreSizes ds read.least_size read.greatest_size

-- the lines of the conflict table about an offer, in its order
abbrev pub offer_lines : List Field
offer_lines = PixelFormat ∷ ColorSpaces
    ∷ (bounds_lines ++ MaxSizeBytes ∷ UnnamedPixelFormat ∷ UnnamedPixelFormatModifier
    ∷ UnnamedColorSpace ∷ [])

-- the line is true of the participants for the offer; an unnamed one counts where
-- they are all that a decision has
abbrev pub IsRefusingLine : Bool → Offer → List OfferDemand → Field → Type 0
IsRefusingLine whole o ds field =
    IsOfferLine field o ds ⊎ ((whole ≡ true) × IsUnnamedLine field o ds)
