-- Where the first entry with each pair of names stands.
use Rattle.std.specs.Prelude.{ℕ, ◌≡◌, ◌<◌, ◌*◌, ◌+◌, ◌==◌, Bool, List, Option, Some, None}
use Rattle.std.specs.List.{position_or_len, slice_index}
use Rattle.sysmem_formats.specs.declared.pixel_format.PixelFormat.{PixelFormat}
use Rattle.sysmem_formats.specs.declared.modifier.Modifier.{Modifier}
use Rattle.sysmem_formats.specs.Codes.{format_code, modifier_code}
use Rattle.sysmem_image.specs.declared.entry.Entry.{Entry}
use Rattle.sysmem_image.specs.declared.first_matches.TheConstants.{COLUMNS, SLOTS}

-- the row of each format that an entry can have, None being DO_NOT_CARE
abbrev pub format_row : Option PixelFormat → ℕ
format_row None = 0
format_row (Some format) = format_code format + 1

-- the column of each modifier that an entry can have
abbrev pub modifier_column : Option Modifier → ℕ
modifier_column None = 0
modifier_column (Some modifier) = modifier_code modifier + 1

-- a number for each pair of names
abbrev pub slot : Option PixelFormat → Option Modifier → ℕ
slot format modifier = format_row format * COLUMNS + modifier_column modifier

-- whether an entry has the pair of names
abbrev pub has_slot : ℕ → Entry → Bool
has_slot s entry = slot entry.format entry.modifier == s

-- each slot has the place of the first entry with its names, or the
-- number of entries where none has them
abbrev pub AreFirst : List Entry → List ℕ → Type 0
AreFirst entries first = (s : ℕ) → s < SLOTS
    → slice_index first s ≡ position_or_len (has_slot s) entries
