-- What a decision reached.
use Rattle.sysmem_formats.specs.declared.offer.Offer.{Offer}
use Rattle.sysmem_formats.specs.declared.offer.Offer.TheVariants.{NoImage, Image}
use Rattle.sysmem_image.specs.declared.size.Corner.{Corner}

-- the smallest image of an offer; sides and row are 0 where it has none
abbrev pub shown_corner : Offer → Corner → Corner
shown_corner NoImage smallest =
    record { width = 0; height = 0; bytes_per_row = 0; bytes = 0 }
shown_corner (Image pair colour) smallest = smallest
