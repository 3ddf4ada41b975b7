-- The smallest image of settings lies in their size.
use Rattle.std.proofs.Common.{◌≡◌, ◌≤◌, subst, arith}
use Rattle.drm_images.specs.Planes.{bytes_of}
use Rattle.sysmem_counts.specs.declared.field.Field.{Field}
use Rattle.sysmem_formats.specs.Layout.{image_bytes_of}
use Rattle.sysmem_formats.specs.declared.colour_space.ColourSpace.{ColourSpace}
use Rattle.sysmem_formats.specs.declared.offer.Offer.{Offer}
use Rattle.sysmem_formats.specs.declared.offer.Offer.TheVariants as offer
use Rattle.sysmem_formats.specs.declared.offer.Pair.{Pair}
use Rattle.sysmem_image.specs.Corners.{IsCorner, RefusesCorner}
use Rattle.sysmem_image.specs.Laws.{NoCorner}
use Rattle.sysmem_image.specs.declared.size.Corner.{Corner}
use Rattle.offer_fits.specs.Sound.{HoldsImage}
use Rattle.sysmem_merge.specs.declared.settings.Settings.{Settings}
use Rattle.flat_negotiation.specs.Written.{HasImage}

holds : (pair : Pair) (colour : ColourSpace) (s : Settings) → HasImage pair colour s → HoldsImage (offer.Image pair colour) s.bounds s.size_bytes
holds pair colour s has = subst (λ (o : Offer). HoldsImage o s.bounds s.size_bytes) has.offer has.sound.holds

-- no smallest image is refused
pub some_corner : NoCorner → (pair : Pair) (colour : ColourSpace) (s : Settings) (field : Field) → HasImage pair colour s → RefusesCorner field (offer.Image pair colour) s.bounds → ⊥
some_corner none pair colour s field has refused =
    let h = holds pair colour s has in
    none field (offer.Image pair colour) s.bounds refused h.image h.bounds.admitted h.bounds.large h.bounds.required

-- its bytes are in the size
pub lies_within : (pair : Pair) (colour : ColourSpace) (s : Settings) (k : Corner) → HasImage pair colour s → IsCorner (offer.Image pair colour) s.bounds k
    → bytes_of pair k.bytes_per_row k.height ≤ s.size_bytes
lies_within pair colour s k has corner =
    let o = offer.Image pair colour in
    let h = holds pair colour s has in
    let i = h.image in
    let a = h.bounds.admitted in
    let least : k.bytes ≤ image_bytes_of o i.row i.height = corner.least_bytes i.width i.height i.row
    (record { alignment = a.width_alignment; from = a.min_width; required = h.bounds.large.width })
    (record { alignment = a.height_alignment; from = a.min_height; required = h.bounds.large.height })
    (record { divisor = a.row_divisor; from = a.min_row; row_bytes = a.row_bytes }) in
    let is : k.bytes ≡ image_bytes_of o k.bytes_per_row k.height = corner.bytes in
    let same : image_bytes_of o k.bytes_per_row k.height ≤ s.size_bytes = omega (arith, least, is, h.bytes) in
    same
