-- The images that bounds admit.
use Rattle.std.specs.Prelude.{ℕ, ◌*◌, ◌≤◌}
use Rattle.std.specs.Int.{◌∣◌}
use Rattle.sysmem_formats.specs.declared.offer.Offer.{Offer}
use Rattle.sysmem_formats.specs.Layout.{row_bytes_of}
use Rattle.sysmem_image.specs.declared.bounds.ImageBounds.{ImageBounds}
use Rattle.sysmem_image.specs.Size.{IsSizeUpTo}
use Rattle.sysmem_image.specs.Bounds.{IsInRange, Suits}

-- an image of an offer: width and height in pixels, row in bytes
pub record Image : Type 0 where
  pub width : ℕ
  pub height : ℕ
  pub row : ℕ

-- the bounds admit the image
pub record Admits (o : Offer) (b : ImageBounds) (i : Image) : Type 0 where
  pub min_width : b.min_size.width ≤ i.width
  pub min_height : b.min_size.height ≤ i.height
  pub max_width : i.width ≤ b.max_size.width
  pub max_height : i.height ≤ b.max_size.height
  pub width_alignment : b.size_alignment.width ∣ i.width
  pub height_alignment : b.size_alignment.height ∣ i.height
  pub min_row : b.min_bytes_per_row ≤ i.row
  pub max_row : i.row ≤ b.max_bytes_per_row
  pub row_divisor : b.bytes_per_row_divisor ∣ i.row
  pub row_bytes : row_bytes_of o i.width ≤ i.row
  pub area : i.width * i.height ≤ b.max_width_times_height

-- the image is at least required_max_size
pub record IsLargeEnough (b : ImageBounds) (i : Image) : Type 0 where
  pub width : b.required_max_size.width ≤ i.width
  pub height : b.required_max_size.height ≤ i.height

-- the bounds of sound settings: they suit the offer, min_size is at most required_min_size, and
-- they admit the image, which is at least required_max_size
pub record IsSoundBounds (o : Offer) (b : ImageBounds) (i : Image) : Type 0 where
  pub in_range : IsInRange b
  pub suits : Suits o b
  pub required : IsSizeUpTo b.min_size b.required_min_size
  pub admitted : Admits o b i
  pub large : IsLargeEnough b i
