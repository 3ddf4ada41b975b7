-- The names of formats, modifiers and colour spaces.
use Rattle.std.specs.Prelude.{ℕ, List, codes}
pub use Rattle.sysmem_formats.specs.Formats.{format_name}
use Rattle.sysmem_formats.specs.declared.modifier.Modifier.{Modifier}
use Rattle.sysmem_formats.specs.declared.modifier.Modifier.TheVariants.{Linear, IntelXTiled}
use Rattle.sysmem_formats.specs.declared.modifier.Modifier.TheVariants.{IntelYTiled}
use Rattle.sysmem_formats.specs.declared.colour_space.ColourSpace.{ColourSpace}
use Rattle.sysmem_formats.specs.declared.colour_space.ColourSpace.TheVariants.{Srgb, Rec601Ntsc}
use Rattle.sysmem_formats.specs.declared.colour_space.ColourSpace.TheVariants.{Rec601NtscFullRange}
use Rattle.sysmem_formats.specs.declared.colour_space.ColourSpace.TheVariants.{Rec601Pal}
use Rattle.sysmem_formats.specs.declared.colour_space.ColourSpace.TheVariants.{Rec601PalFullRange}
use Rattle.sysmem_formats.specs.declared.colour_space.ColourSpace.TheVariants.{Rec709, Rec2020}
use Rattle.sysmem_formats.specs.declared.colour_space.ColourSpace.TheVariants.{Rec2100}

-- the name of a modifier
abbrev pub modifier_name : Modifier → List ℕ
modifier_name Linear = codes "LINEAR"
modifier_name IntelXTiled = codes "INTEL_I915_X_TILED"
modifier_name IntelYTiled = codes "INTEL_I915_Y_TILED"

-- the name of a colour space
abbrev pub colour_name : ColourSpace → List ℕ
colour_name Srgb = codes "SRGB"
colour_name Rec601Ntsc = codes "REC601_NTSC"
colour_name Rec601NtscFullRange = codes "REC601_NTSC_FULL_RANGE"
colour_name Rec601Pal = codes "REC601_PAL"
colour_name Rec601PalFullRange = codes "REC601_PAL_FULL_RANGE"
colour_name Rec709 = codes "REC709"
colour_name Rec2020 = codes "REC2020"
colour_name Rec2100 = codes "REC2100"
