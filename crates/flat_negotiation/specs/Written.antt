-- Settings as a C program is told them.
use Rattle.std.specs.Prelude.{◌≡◌, ℕ, ◌≤◌, Some, IsSome}
use Rattle.drm_images.specs.Codes.{fourcc, modifier_bits}
use Rattle.sysmem_formats.specs.declared.colour_space.ColourSpace.{ColourSpace}
use Rattle.sysmem_formats.specs.declared.offer.Offer.{Offer}
use Rattle.sysmem_formats.specs.declared.offer.Offer.TheVariants as offer
use Rattle.sysmem_formats.specs.declared.offer.Pair.{Pair}
use Rattle.sysmem_image.specs.Corners.{IsCorner}
use Rattle.sysmem_image.specs.declared.size.Corner.{Corner}
use Rattle.sysmem_memory.specs.declared.domain.CoherencyDomain.{CoherencyDomain}
use Rattle.sysmem_memory.specs.declared.domain.CoherencyDomain.TheVariants.{Cpu, Ram, Inaccessible}
use Rattle.offer_fits.specs.Fit.{IsSoundFit}
use Rattle.sysmem_merge.specs.Fit.{fit_of}
use Rattle.sysmem_merge.specs.declared.settings.Settings.{Settings}
use Rattle.flat_negotiation.specs.Colours.{colour_bit}
use Rattle.flat_negotiation.specs.Layout.{IsPairLayout, no_layout}
use Rattle.flat_negotiation.specs.declared.flat.FlatImage.{FlatImage}
use Rattle.flat_negotiation.specs.declared.flat.FlatSettings.{FlatSettings}

-- the number of a coherency domain
abbrev pub domain_code : CoherencyDomain → ℕ
domain_code Cpu = 1
domain_code Ram = 2
domain_code Inaccessible = 4

-- no image
abbrev pub no_image : FlatImage
no_image =
    record { modifier = 0; format = 0; colour = 0; width = 0; height = 0; layout = no_layout }

-- settings that hold an image of the pair, whose format has a code
pub record HasImage (pair : Pair) (colour : ColourSpace) (s : Settings) : Type 0 where
  pub code : IsSome (fourcc pair.format)
  pub offer : s.offer ≡ offer.Image pair colour
  pub sound : IsSoundFit (fit_of s)

-- the same of an offer, where it is an image
abbrev pub HoldsOffer : Offer → Settings → Type 0
HoldsOffer offer.NoImage s = Unit {0}
HoldsOffer (offer.Image pair colour) s = HasImage pair colour s

-- settings that C has words for
abbrev pub CanBeWritten : Settings → Type 0
CanBeWritten s = HoldsOffer s.offer s

-- the image of a pair with this corner: its codes, its sides and its planes
pub record IsLaid (pair : Pair) (colour : ColourSpace) (corner : Corner)
    (image : FlatImage) : Type 0 where
  pub format : fourcc pair.format ≡ Some image.format
  pub modifier : image.modifier ≡ modifier_bits pair.modifier
  pub colour_is : image.colour ≡ colour_bit colour
  pub width : image.width ≡ corner.width
  pub height : image.height ≡ corner.height
  pub layout : IsPairLayout pair corner.bytes_per_row corner.height image.layout

-- the smallest image of the pair in the bounds, which lies in the buffer
pub record IsImageWritten (pair : Pair) (colour : ColourSpace) (s : Settings)
    (image : FlatImage) : Type 0 where
  pub corner : Corner
  pub smallest : IsCorner (offer.Image pair colour) s.bounds corner
  pub laid : IsLaid pair colour corner image
  pub within : image.layout.bytes ≤ s.size_bytes

-- what is told of the offer
abbrev pub IsOfferWritten : Offer → Settings → FlatImage → Type 0
IsOfferWritten offer.NoImage s image = image ≡ no_image
IsOfferWritten (offer.Image pair colour) s image = IsImageWritten pair colour s image

-- what is told of the settings, in a struct of this size
pub record IsWritten (size : ℕ) (s : Settings) (flat : FlatSettings) : Type 0 where
  pub struct_size : flat.struct_size ≡ size
  pub bytes : flat.bytes ≡ s.size_bytes
  pub heap : flat.heap ≡ s.place.heap
  pub count : flat.count ≡ s.count
  pub coherency : flat.coherency ≡ domain_code s.place.coherency
  pub image : IsOfferWritten s.offer s flat.image
