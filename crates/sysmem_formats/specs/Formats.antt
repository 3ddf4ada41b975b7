-- Every pixel format: its name, its number, the bytes of its pixels, and where its colours lie.
use Rattle.std.specs.Prelude.{ℕ, List, codes}
use Rattle.sysmem_formats.specs.declared.pixel_format.PixelFormat.{PixelFormat}
use Rattle.sysmem_formats.specs.declared.pixel_format.PixelFormat.TheVariants.{R8G8B8A8, B8G8R8A8}
use Rattle.sysmem_formats.specs.declared.pixel_format.PixelFormat.TheVariants.{R8G8B8X8, B8G8R8X8}
use Rattle.sysmem_formats.specs.declared.pixel_format.PixelFormat.TheVariants.{R8G8B8, B8G8R8}
use Rattle.sysmem_formats.specs.declared.pixel_format.PixelFormat.TheVariants.{R5G6B5, R8G8, YUY2}
use Rattle.sysmem_formats.specs.declared.pixel_format.PixelFormat.TheVariants.{R8, L8, I420, YV12}
use Rattle.sysmem_formats.specs.declared.pixel_format.PixelFormat.TheVariants.{NV12, P010}
use Rattle.sysmem_formats.specs.declared.pixel_format.Sampling.{Sampling}
use Rattle.sysmem_formats.specs.declared.pixel_format.Sampling.TheVariants.{Full, HalfRow}
use Rattle.sysmem_formats.specs.declared.pixel_format.Sampling.TheVariants.{TwoPlanes, ThreePlanes}

-- the name of a pixel format
abbrev pub format_name : PixelFormat → List ℕ
format_name R8G8B8A8 = codes "R8G8B8A8"
format_name B8G8R8A8 = codes "B8G8R8A8"
format_name R8G8B8X8 = codes "R8G8B8X8"
format_name B8G8R8X8 = codes "B8G8R8X8"
format_name R8G8B8 = codes "R8G8B8"
format_name B8G8R8 = codes "B8G8R8"
format_name R5G6B5 = codes "R5G6B5"
format_name R8G8 = codes "R8G8"
format_name YUY2 = codes "YUY2"
format_name R8 = codes "R8"
format_name L8 = codes "L8"
format_name I420 = codes "I420"
format_name YV12 = codes "YV12"
format_name NV12 = codes "NV12"
format_name P010 = codes "P010"

-- a number for each pixel format, by which definitions compare two of them
abbrev pub format_code : PixelFormat → ℕ
format_code R8G8B8A8 = 0
format_code B8G8R8A8 = 1
format_code R8G8B8X8 = 2
format_code B8G8R8X8 = 3
format_code R8G8B8 = 4
format_code B8G8R8 = 5
format_code R5G6B5 = 6
format_code R8G8 = 7
format_code YUY2 = 8
format_code R8 = 9
format_code L8 = 10
format_code I420 = 11
format_code YV12 = 12
format_code NV12 = 13
format_code P010 = 14

-- bytes of one pixel in a row; for the formats with subsampled colour, in a row of the luma plane
abbrev pub pixel_bytes : PixelFormat → ℕ
pixel_bytes R8G8B8A8 = 4
pixel_bytes B8G8R8A8 = 4
pixel_bytes R8G8B8X8 = 4
pixel_bytes B8G8R8X8 = 4
pixel_bytes R8G8B8 = 3
pixel_bytes B8G8R8 = 3
pixel_bytes R5G6B5 = 2
pixel_bytes R8G8 = 2
pixel_bytes YUY2 = 2
pixel_bytes R8 = 1
pixel_bytes L8 = 1
pixel_bytes I420 = 1
pixel_bytes YV12 = 1
pixel_bytes NV12 = 1
pixel_bytes P010 = 2

-- which pixels share their colours, and where these lie
abbrev pub sampling_of : PixelFormat → Sampling
sampling_of R8G8B8A8 = Full
sampling_of B8G8R8A8 = Full
sampling_of R8G8B8X8 = Full
sampling_of B8G8R8X8 = Full
sampling_of R8G8B8 = Full
sampling_of B8G8R8 = Full
sampling_of R5G6B5 = Full
sampling_of R8G8 = Full
sampling_of YUY2 = HalfRow
sampling_of R8 = Full
sampling_of L8 = Full
sampling_of I420 = ThreePlanes
sampling_of YV12 = ThreePlanes
sampling_of NV12 = TwoPlanes
sampling_of P010 = TwoPlanes
