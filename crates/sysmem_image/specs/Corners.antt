-- The smallest image that bounds admit, and why there is none.
use Rattle.std.specs.Prelude.{◌≡◌, ℕ, ◌*◌, ◌≤◌, ◌<◌, ◌⊎◌}
use Rattle.std.specs.Int.{◌∣◌}
use Rattle.sysmem_counts.specs.declared.field.Field.{Field}
use Rattle.sysmem_counts.specs.declared.field.Field.TheVariants.{RequiredMinSize, MaxSize}
use Rattle.sysmem_counts.specs.declared.field.Field.TheVariants.{MaxWidthTimesHeight}
use Rattle.sysmem_counts.specs.declared.field.Field.TheVariants.{MaxBytesPerRow}
use Rattle.sysmem_formats.specs.declared.offer.Offer.{Offer}
use Rattle.sysmem_formats.specs.Layout.{row_bytes_of, image_bytes_of}
use Rattle.sysmem_image.specs.declared.bounds.ImageBounds.{ImageBounds}
use Rattle.sysmem_image.specs.declared.size.Corner.{Corner}
use Rattle.sysmem_image.specs.Size.{IsSizeUpTo}
use Rattle.sysmem_image.specs.Images.{Image, Admits, IsLargeEnough}

-- a width of the bounds' alignment that isn't below their lower bounds; it may be above max_size
pub record IsWidth (b : ImageBounds) (w : ℕ) : Type 0 where
  pub alignment : b.size_alignment.width ∣ w
  pub from : b.min_size.width ≤ w
  pub required : b.required_max_size.width ≤ w

-- a height of the bounds' alignment that isn't below their lower bounds; it may be above max_size
pub record IsHeight (b : ImageBounds) (h : ℕ) : Type 0 where
  pub alignment : b.size_alignment.height ∣ h
  pub from : b.min_size.height ≤ h
  pub required : b.required_max_size.height ≤ h

-- a row of the bounds' divisor for a width, not below their lower
-- bound; it may be above the maximum
pub record IsRow (o : Offer) (b : ImageBounds) (w r : ℕ) : Type 0 where
  pub divisor : b.bytes_per_row_divisor ∣ r
  pub from : b.min_bytes_per_row ≤ r
  pub row_bytes : row_bytes_of o w ≤ r

-- the corner as an image
abbrev pub image_of : Corner → Image
image_of k = record { width = k.width; height = k.height; row = k.bytes_per_row }

-- the corner is an image of the bounds, at least required_max_size, and least in width, height, row
-- and bytes among all that alignment, divisor and lower bounds allow
pub record IsCorner (o : Offer) (b : ImageBounds) (k : Corner) : Type 0 where
  pub admitted : Admits o b (image_of k)
  pub large : IsLargeEnough b (image_of k)
  pub bytes : k.bytes ≡ image_bytes_of o k.bytes_per_row k.height
  pub least_width : (w : ℕ) → IsWidth b w → k.width ≤ w
  pub least_height : (h : ℕ) → IsHeight b h → k.height ≤ h
  pub least_row : (w r : ℕ) → IsWidth b w → IsRow o b w r → k.bytes_per_row ≤ r
  pub least_bytes : (w h r : ℕ) → IsWidth b w → IsHeight b h → IsRow o b w r
      → k.bytes ≤ image_bytes_of o r h

-- no width that the alignment and lower bounds allow is up to max_size
abbrev pub HasNoWidth : ImageBounds → Type 0
HasNoWidth b = (w : ℕ) → IsWidth b w → b.max_size.width < w

-- no height that the alignment and lower bounds allow is up to max_size
abbrev pub HasNoHeight : ImageBounds → Type 0
HasNoHeight b = (h : ℕ) → IsHeight b h → b.max_size.height < h

-- for this field bounds are refused a corner: the line of the conflict table that it heads fails
abbrev pub RefusesCorner : Field → Offer → ImageBounds → Type 0
RefusesCorner RequiredMinSize o b = ¬ IsSizeUpTo b.min_size b.required_min_size
RefusesCorner MaxSize o b = HasNoWidth b ⊎ HasNoHeight b
RefusesCorner MaxWidthTimesHeight o b = (w h : ℕ) → IsWidth b w → IsHeight b h
    → b.max_width_times_height < w * h
RefusesCorner MaxBytesPerRow o b = (w r : ℕ) → IsWidth b w → IsRow o b w r → b.max_bytes_per_row < r
RefusesCorner _ o b = ⊥

-- a width and a height that the alignment and lower bounds allow are up to max_size
pub record HasSides (b : ImageBounds) : Type 0 where
  pub width : ℕ
  pub is_width : IsWidth b width
  pub max_width : width ≤ b.max_size.width
  pub height : ℕ
  pub is_height : IsHeight b height
  pub max_height : height ≤ b.max_size.height

-- the same, and their product is up to max_width_times_height
pub record HasArea (b : ImageBounds) : Type 0 where
  pub sides : HasSides b
  pub area : sides.width * sides.height ≤ b.max_width_times_height

-- the lines before that of the field, of those that the corner tests, don't fail
abbrev pub EarlierHold : Field → ImageBounds → Type 0
EarlierHold MaxSize b = IsSizeUpTo b.min_size b.required_min_size
EarlierHold MaxWidthTimesHeight b = IsSizeUpTo b.min_size b.required_min_size × HasSides b
EarlierHold MaxBytesPerRow b = IsSizeUpTo b.min_size b.required_min_size × HasArea b
EarlierHold _ b = Unit {0}

-- m is the least multiple of n that isn't below either bound
pub record IsLeastAbove (n low other m : ℕ) : Type 0 where
  pub multiple : n ∣ m
  pub from : low ≤ m
  pub above : other ≤ m
  pub least : (k : ℕ) → n ∣ k → low ≤ k → other ≤ k → m ≤ k

-- the least width and the least height that the bounds allow, and they are up to max_size
pub record AreLeastSides (b : ImageBounds) (w h : ℕ) : Type 0 where
  pub width : IsLeastAbove b.size_alignment.width b.min_size.width b.required_max_size.width w
  pub height : IsLeastAbove b.size_alignment.height b.min_size.height b.required_max_size.height h
  pub max_width : w ≤ b.max_size.width
  pub max_height : h ≤ b.max_size.height
