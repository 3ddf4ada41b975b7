-- The pairs of format and modifier that entries ask for.
use Rattle.std.specs.Prelude.{◌&&◌, ◌==◌, List, Bool, false, Option, Some}
use Rattle.std.specs.List.{list_any}
use Rattle.std.specs.Option.{option_eq}
use Rattle.sysmem_formats.specs.declared.modifier.Modifier.{Modifier}
use Rattle.sysmem_formats.specs.declared.pixel_format.PixelFormat.{PixelFormat}
use Rattle.sysmem_formats.specs.Codes.{format_code, modifier_code}
use Rattle.sysmem_image.specs.declared.entry.Entry.{Entry}
use Rattle.negotiation_inputs.specs.declared.asked.AskedPair.{AskedPair}
use Rattle.negotiation_inputs.specs.Pairs.{is_tiled_misfit}

-- DO_NOT_CARE is the same as itself alone
abbrev pub same_format : Option PixelFormat → Option PixelFormat → Bool
same_format a b = option_eq (λ x y. format_code x == format_code y) a b

-- the same of modifiers
abbrev pub same_modifier : Option Modifier → Option Modifier → Bool
same_modifier a b = option_eq (λ x y. modifier_code x == modifier_code y) a b

abbrev pub same_asked : AskedPair → AskedPair → Bool
same_asked a b = same_format a.format b.format && same_modifier a.modifier b.modifier

-- a tiled modifier with a named format that isn't of 4 bytes
abbrev pub asks_misfit : Option PixelFormat → Option Modifier → Bool
asks_misfit (Some format) (Some modifier) =
    is_tiled_misfit (record { format = format; modifier = modifier })
asks_misfit _ _ = false

-- what an entry asks for
abbrev pub pair_asked : Entry → AskedPair
pair_asked entry = record { format = entry.format; modifier = entry.modifier }

-- an entry asks for the same
abbrev pub is_asked_already : List Entry → AskedPair → Bool
is_asked_already entries new = list_any (λ entry. same_asked (pair_asked entry) new) entries
