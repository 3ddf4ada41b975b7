-- The pairs of a platform, by their codes.
use Rattle.std.specs.Prelude.{◌≡◌, ℕ, Some}
use Rattle.sysmem_counts.specs.declared.field.Field.{Field}
use Rattle.sysmem_counts.specs.declared.field.Field.TheVariants.{PixelFormat, PixelFormatModifier}
use Rattle.sysmem_formats.specs.declared.modifier.Modifier.{Modifier}
use Rattle.sysmem_formats.specs.declared.offer.Pair.{Pair}
use Rattle.sysmem_formats.specs.declared.pixel_format.PixelFormat.{PixelFormat as Format}
use Rattle.drm_images.specs.Codes.{fourcc, modifier_bits}
use Rattle.flat_negotiation.specs.declared.parts.flat.FlatPair.{FlatPair}

-- the pair has these codes
pub record HasCodes (code bits : ℕ) (pair : Pair) : Type 0 where
  pub format : fourcc pair.format ≡ Some code
  pub modifier : modifier_bits pair.modifier ≡ bits

-- the pair has the codes of the struct
abbrev pub IsPairSaid : FlatPair → Pair → Type 0
IsPairSaid flat pair = HasCodes flat.format flat.modifier pair

-- no format has the code
abbrev pub IsNoFormat : ℕ → Type 0
IsNoFormat code = (format : Format) → fourcc format ≡ Some code → ⊥

-- no modifier has the bits
abbrev pub IsNoModifier : ℕ → Type 0
IsNoModifier bits = (modifier : Modifier) → modifier_bits modifier ≡ bits → ⊥

-- in this field no pair is so
abbrev pub PairUnsaid : Field → FlatPair → Type 0
PairUnsaid PixelFormat flat = IsNoFormat flat.format
PairUnsaid PixelFormatModifier flat = IsNoModifier flat.modifier
PairUnsaid _ flat = ⊥
