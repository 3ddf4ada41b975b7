-- Pairs of a format and a modifier, and colour spaces, among others.
use Rattle.std.specs.Prelude.{◌&&◌, ◌==◌, List, Bool, not, bytes_eq}
use Rattle.std.specs.List.{list_any}
use Rattle.sysmem_formats.specs.declared.colour_space.ColourSpace.{ColourSpace}
use Rattle.sysmem_formats.specs.declared.modifier.Modifier.TheVariants.{Linear}
use Rattle.sysmem_formats.specs.declared.offer.Pair.{Pair}
use Rattle.sysmem_formats.specs.Codes.{format_code, modifier_code}
use Rattle.sysmem_formats.specs.Layout.{pixel_bytes}
use Rattle.sysmem_formats.specs.Names.{colour_name}

abbrev pub same_pair : Pair → Pair → Bool
same_pair a b =
    format_code a.format == format_code b.format
    && modifier_code a.modifier == modifier_code b.modifier

-- the pair is among these
abbrev pub has_pair : List Pair → Pair → Bool
has_pair pairs new = list_any (λ pair. same_pair pair new) pairs

abbrev pub same_colour : ColourSpace → ColourSpace → Bool
same_colour a b = bytes_eq (colour_name a) (colour_name b)

-- the colour space is among these
abbrev pub lists_colour : List ColourSpace → ColourSpace → Bool
lists_colour colours new = list_any (λ colour. same_colour colour new) colours

-- a tiled modifier with a format that isn't of 4 bytes: the test of IsTiledMisfit
abbrev pub is_tiled_misfit : Pair → Bool
is_tiled_misfit pair =
    not (modifier_code pair.modifier == modifier_code Linear) && not (pixel_bytes pair.format == 4)
