-- Colour spaces, as the bits of a set.
use Rattle.std.specs.Prelude.{◌≡◌, ℕ, ◌^◌, if◌then◌else◌}
use Rattle.sysmem_counts.specs.declared.field.Field.{Field}
use Rattle.sysmem_counts.specs.declared.field.Field.TheVariants.{ColorSpaces}
use Rattle.sysmem_formats.specs.declared.colour_space.ColourSpace.{ColourSpace}
use Rattle.sysmem_formats.specs.declared.colour_space.ColourSpace.TheVariants.{Srgb, Rec601Ntsc, Rec601NtscFullRange}
use Rattle.sysmem_formats.specs.declared.colour_space.ColourSpace.TheVariants.{Rec601Pal, Rec601PalFullRange, Rec709}
use Rattle.sysmem_formats.specs.declared.colour_space.ColourSpace.TheVariants.{Rec2020, Rec2100}
use Rattle.sysmem_image.specs.declared.colours.ColourSet.{ColourSet}
use Rattle.sysmem_image.specs.Colours.{no_colours, with_any, with_colour}
use Rattle.flat_negotiation.specs.Stated.{has_bit}

-- the place of a colour space's bit
abbrev pub colour_index : ColourSpace → ℕ
colour_index Srgb = 0
colour_index Rec601Ntsc = 1
colour_index Rec601NtscFullRange = 2
colour_index Rec601Pal = 3
colour_index Rec601PalFullRange = 4
colour_index Rec709 = 5
colour_index Rec2020 = 6
colour_index Rec2100 = 7

-- the bit itself
abbrev pub colour_bit : ColourSpace → ℕ
colour_bit colour = 2 ^ colour_index colour

-- the colour space that has the bit
abbrev pub IsColourSaid : ℕ → ColourSpace → Type 0
IsColourSaid bit colour = colour_bit colour ≡ bit

-- in this field no colour space is so
abbrev pub ColourUnsaid : Field → ℕ → Type 0
ColourUnsaid ColorSpaces bit = (colour : ColourSpace) → colour_bit colour ≡ bit → ⊥
ColourUnsaid _ bit = ⊥

-- a colour space is listed too where its bit is set
abbrev pub listed : ℕ → ColourSpace → ColourSet → ColourSet
listed bits colour set = if has_bit bits (colour_index colour) then with_colour set colour else set

-- DO_NOT_CARE is listed where its bit is set
abbrev pub any_listed : ℕ → ColourSet
any_listed bits = if has_bit bits 8 then with_any no_colours else no_colours

-- the set of what has its bit set
abbrev pub set_said : ℕ → ColourSet
set_said bits =
    listed bits Rec2100 (listed bits Rec2020 (listed bits Rec709
    (listed bits Rec601PalFullRange (listed bits Rec601Pal
    (listed bits Rec601NtscFullRange (listed bits Rec601Ntsc
    (listed bits Srgb (any_listed bits))))))))
