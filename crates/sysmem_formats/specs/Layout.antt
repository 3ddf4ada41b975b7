-- Where the bytes of an image lie.
use Rattle.std.specs.Prelude.{◌≢◌, ℕ, ◌+◌, ◌-◌, ◌*◌, ◌/◌}
use Rattle.sysmem_formats.specs.declared.pixel_format.PixelFormat.{PixelFormat}
use Rattle.sysmem_formats.specs.declared.pixel_format.Sampling.{Sampling}
use Rattle.sysmem_formats.specs.declared.pixel_format.Sampling.TheVariants.{Full, HalfRow}
use Rattle.sysmem_formats.specs.declared.pixel_format.Sampling.TheVariants.{TwoPlanes, ThreePlanes}
pub use Rattle.sysmem_formats.specs.Formats.{pixel_bytes, sampling_of}
use Rattle.sysmem_formats.specs.declared.modifier.Modifier.{Modifier}
use Rattle.sysmem_formats.specs.declared.modifier.Modifier.TheVariants.{Linear, IntelXTiled}
use Rattle.sysmem_formats.specs.declared.modifier.Modifier.TheVariants.{IntelYTiled}
use Rattle.sysmem_formats.specs.declared.offer.Pair.{Pair}
use Rattle.sysmem_formats.specs.declared.offer.Offer.{Offer}
use Rattle.sysmem_formats.specs.declared.offer.Offer.TheVariants.{NoImage, Image}

-- bytes of one pixel in a row of the offer
abbrev pub bytes_per_pixel_of : Offer → ℕ
bytes_per_pixel_of NoImage = 1
bytes_per_pixel_of (Image pair _) = pixel_bytes pair.format

-- the least multiple of a step that is not below n
abbrev pub up_to : ℕ → ℕ → ℕ
up_to step n = (n + (step - 1)) / step * step

-- the bytes of a row, with what a tile adds to them
abbrev pub row_up_to : Modifier → ℕ → ℕ
row_up_to Linear bytes = bytes
row_up_to IntelXTiled bytes = up_to 512 bytes
row_up_to IntelYTiled bytes = up_to 128 bytes

-- row bytes of a width; the width may be any number
abbrev pub row_bytes_of : Offer → ℕ → ℕ
row_bytes_of NoImage width = 0
row_bytes_of (Image pair _) width = row_up_to pair.modifier (width * pixel_bytes pair.format)

-- rows of a height, with what a tile adds to them
abbrev pub rows_of : Modifier → ℕ → ℕ
rows_of Linear height = height
rows_of IntelXTiled height = up_to 8 height
rows_of IntelYTiled height = up_to 32 height

-- the bytes of all planes, where the first or only one has n:
-- planes of subsampled colour add a half
abbrev pub sampled_bytes : Sampling → ℕ → ℕ
sampled_bytes Full n = n
sampled_bytes HalfRow n = n
sampled_bytes TwoPlanes n = (3 * n + 1) / 2
sampled_bytes ThreePlanes n = (3 * n + 1) / 2

-- the same of a format
abbrev pub plane_bytes : PixelFormat → ℕ → ℕ
plane_bytes format n = sampled_bytes (sampling_of format) n

-- image bytes of a row in bytes and a height in pixels
abbrev pub image_bytes_of : Offer → ℕ → ℕ → ℕ
image_bytes_of NoImage row height = 0
image_bytes_of (Image pair _) row height =
    plane_bytes pair.format (row * rows_of pair.modifier height)

-- how many pixels of a row share their colours
abbrev pub pixels_sharing : Sampling → ℕ
pixels_sharing Full = 1
pixels_sharing HalfRow = 2
pixels_sharing TwoPlanes = 2
pixels_sharing ThreePlanes = 2

-- how many rows share their colours
abbrev pub rows_sharing : Sampling → ℕ
rows_sharing Full = 1
rows_sharing HalfRow = 1
rows_sharing TwoPlanes = 2
rows_sharing ThreePlanes = 2

-- own alignment of the width of a format
abbrev pub format_width_alignment : PixelFormat → ℕ
format_width_alignment format = pixels_sharing (sampling_of format)

-- own alignment of the height of a format, and own divisor of its rows where they aren't tiled
abbrev pub format_height_alignment : PixelFormat → ℕ
format_height_alignment format = rows_sharing (sampling_of format)

-- own alignment of the width
abbrev pub width_alignment_of : Offer → ℕ
width_alignment_of NoImage = 1
width_alignment_of (Image pair _) = format_width_alignment pair.format

-- own alignment of the height
abbrev pub height_alignment_of : Offer → ℕ
height_alignment_of NoImage = 1
height_alignment_of (Image pair _) = format_height_alignment pair.format

-- own divisor of the bytes of a row of a format and a modifier
abbrev pub row_divisor : PixelFormat → Modifier → ℕ
row_divisor format Linear = format_height_alignment format
row_divisor format IntelXTiled = 512
row_divisor format IntelYTiled = 128

-- own divisor of the bytes of a row
abbrev pub row_divisor_of : Offer → ℕ
row_divisor_of NoImage = 1
row_divisor_of (Image pair _) = row_divisor pair.format pair.modifier

-- a tiled modifier with a format that isn't of 4 bytes, which no
-- constraints and no platform may name
abbrev pub IsTiledMisfit : Pair → Type 0
IsTiledMisfit pair = (pair.modifier ≢ Linear) × (pixel_bytes pair.format ≢ 4)
