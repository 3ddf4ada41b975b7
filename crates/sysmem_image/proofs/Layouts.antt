-- Layouts grow with width, row and height.
use Rattle.std.proofs.Common.{ℕ, ◌*◌, ◌≤◌, arith}
use Rattle.std.proofs.Math.Nat.{mul-le-mul, mul-le-mul_right}
use Rattle.sysmem_formats.specs.declared.pixel_format.PixelFormat.{PixelFormat}
use Rattle.sysmem_formats.specs.declared.pixel_format.Sampling.{Sampling}
use Rattle.sysmem_formats.specs.declared.pixel_format.Sampling.TheVariants.{Full, HalfRow, TwoPlanes, ThreePlanes}
use Rattle.sysmem_formats.specs.declared.modifier.Modifier.{Modifier}
use Rattle.sysmem_formats.specs.declared.modifier.Modifier.TheVariants.{Linear, IntelXTiled, IntelYTiled}
use Rattle.sysmem_formats.specs.declared.offer.Offer.{Offer}
use Rattle.sysmem_formats.specs.declared.offer.Offer.TheVariants.{NoImage, Image}
use Rattle.sysmem_formats.specs.Layout.{pixel_bytes, row_up_to, rows_of, sampled_bytes, sampling_of, plane_bytes, row_bytes_of, image_bytes_of}

-- more bytes of a row are no fewer with their tile's part
row_up_to_mono : (m : Modifier) (x y : ℕ) → x ≤ y → row_up_to m x ≤ row_up_to m y
row_up_to_mono Linear x y h = h
row_up_to_mono IntelXTiled x y h = omega arith
row_up_to_mono IntelYTiled x y h = omega arith

-- more rows are no fewer with their tile's part
rows_of_mono : (m : Modifier) (x y : ℕ) → x ≤ y → rows_of m x ≤ rows_of m y
rows_of_mono Linear x y h = h
rows_of_mono IntelXTiled x y h = omega arith
rows_of_mono IntelYTiled x y h = omega arith

-- more bytes of the first plane are no fewer with the other planes
plane_bytes_mono : (f : PixelFormat) (x y : ℕ) → x ≤ y → plane_bytes f x ≤ plane_bytes f y
plane_bytes_mono f x y h = by_sampling (sampling_of f) where
  by_sampling : (s : Sampling) → sampled_bytes s x ≤ sampled_bytes s y
  by_sampling Full = h
  by_sampling HalfRow = h
  by_sampling TwoPlanes = omega (arith, h)
  by_sampling ThreePlanes = omega (arith, h)

-- a wider row has no fewer bytes
pub row_bytes_mono : (o : Offer) (w v : ℕ) → w ≤ v → row_bytes_of o w ≤ row_bytes_of o v
row_bytes_mono NoImage w v h = omega arith
row_bytes_mono (Image pair colour) w v h = row_up_to_mono pair.modifier (w * pixel_bytes pair.format) (v * pixel_bytes pair.format) (mul-le-mul_right (pixel_bytes pair.format) h)

-- an image of longer rows and more of them has no fewer bytes
pub image_bytes_mono : (o : Offer) (r q h g : ℕ) → r ≤ q → h ≤ g → image_bytes_of o r h ≤ image_bytes_of o q g
image_bytes_mono NoImage r q h g long high = omega arith
image_bytes_mono (Image pair colour) r q h g long high =
    plane_bytes_mono pair.format (r * rows_of pair.modifier h) (q * rows_of pair.modifier g) (mul-le-mul long (rows_of_mono pair.modifier h g high))
