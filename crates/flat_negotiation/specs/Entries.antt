-- The entries of a participant.
use Rattle.std.specs.Prelude.{◌≡◌, ℕ, ◌≤◌, ◌<◌, ◌^◌, ◌-◌, Bool, true, false, Option}
use Rattle.std.specs.Prelude.{Some, None, IsSomeAnd}
use Rattle.drm_images.specs.Codes.{fourcc, modifier_bits}
use Rattle.sysmem_counts.specs.Bounds.{most_number}
use Rattle.sysmem_counts.specs.declared.field.Field.{Field}
use Rattle.sysmem_counts.specs.declared.field.Field.TheVariants as field
use Rattle.sysmem_formats.specs.declared.modifier.Modifier.{Modifier}
use Rattle.sysmem_formats.specs.declared.pixel_format.PixelFormat.{PixelFormat}
use Rattle.sysmem_image.specs.Size.{most_multiple}
use Rattle.sysmem_image.specs.declared.bounds.ImageBounds.{ImageBounds}
use Rattle.sysmem_image.specs.declared.entry.Entry.{Entry}
use Rattle.flat_negotiation.specs.declared.parts.flat.FlatEntry.{FlatEntry}
use Rattle.flat_negotiation.specs.Colours.{set_said}
use Rattle.flat_negotiation.specs.Pairs.{IsNoFormat, IsNoModifier}
use Rattle.flat_negotiation.specs.Stated.{sides_stated, stated}

-- any format is asked for, or that of the code
abbrev pub IsFormatSaid : Bool → ℕ → Option PixelFormat → Type 0
IsFormatSaid true code asked = asked ≡ None
IsFormatSaid false code asked = IsSomeAnd asked (λ format. fourcc format ≡ Some code)

-- any modifier is asked for, or that of the bits
abbrev pub IsModifierSaid : Bool → ℕ → Option Modifier → Type 0
IsModifierSaid true bits asked = asked ≡ None
IsModifierSaid false bits asked = IsSomeAnd asked (λ modifier. modifier_bits modifier ≡ bits)

-- each bound, with what is absent where a number is 0
pub record AreBoundsSaid (flat : FlatEntry) (b : ImageBounds) : Type 0 where
  pub min_size : b.min_size ≡ sides_stated 1 flat.min_size
  pub max_size : b.max_size ≡ sides_stated most_number flat.max_size
  pub size_alignment : b.size_alignment ≡ sides_stated 1 flat.size_alignment
  pub min_bytes_per_row : b.min_bytes_per_row ≡ stated 1 flat.min_pitch
  pub max_bytes_per_row : b.max_bytes_per_row ≡ stated most_number flat.max_pitch
  pub bytes_per_row_divisor : b.bytes_per_row_divisor ≡ stated 1 flat.pitch_divisor
  pub start_offset_divisor : b.start_offset_divisor ≡ stated 1 flat.offset_divisor
  pub display_rect_alignment : b.display_rect_alignment ≡ sides_stated 1 flat.display_rect_alignment
  pub required_min_size : b.required_min_size ≡ sides_stated most_number flat.required_min_size
  pub required_max_size : b.required_max_size ≡ sides_stated 0 flat.required_max_size
  pub max_width_times_height : b.max_width_times_height ≡ stated (2 ^ 64 - 1) flat.max_pixels

-- the entry is what the struct states
pub record IsEntrySaid (flat : FlatEntry) (entry : Entry) : Type 0 where
  pub format : IsFormatSaid flat.any_format flat.format entry.format
  pub modifier : IsModifierSaid flat.any_modifier flat.modifier entry.modifier
  pub few_colours : flat.colours < 512
  pub colours : entry.colours ≡ set_said flat.colours
  pub bounds : AreBoundsSaid flat entry.bounds.asked
  pub at_pixel : entry.bounds.at_pixel_boundary ≡ flat.rows_end_at_pixels

-- in this field the struct states no entry
abbrev pub EntryUnsaid : Field → FlatEntry → Type 0
EntryUnsaid field.PixelFormat flat = (flat.any_format ≡ false) × IsNoFormat flat.format
EntryUnsaid field.PixelFormatModifier flat =
    (flat.any_modifier ≡ false) × IsNoModifier flat.modifier
EntryUnsaid field.ColorSpaces flat = 512 ≤ flat.colours
EntryUnsaid field.BytesPerRowDivisor flat = most_multiple < flat.pitch_divisor
EntryUnsaid _ flat = ⊥
