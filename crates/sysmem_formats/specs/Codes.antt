-- A number for each name, by which definitions compare two.
use Rattle.std.specs.Prelude.{ℕ}
pub use Rattle.sysmem_formats.specs.Formats.{format_code}
use Rattle.sysmem_formats.specs.declared.modifier.Modifier.{Modifier}
use Rattle.sysmem_formats.specs.declared.modifier.Modifier.TheVariants.{Linear, IntelXTiled}
use Rattle.sysmem_formats.specs.declared.modifier.Modifier.TheVariants.{IntelYTiled}

-- a number for each modifier, by which definitions compare two of them
abbrev pub modifier_code : Modifier → ℕ
modifier_code Linear = 0
modifier_code IntelXTiled = 1
modifier_code IntelYTiled = 2
