-- A participant's entry for an offer, and the bounds that it puts on it.
use Rattle.std.specs.Prelude.{ℕ, ◌*◌, ◌%◌, ◌≤◌, max, Bool, true, false, ◌&&◌, ◌==◌, find, List, map}
use Rattle.std.specs.Prelude.{Option, Some, None, if◌then◌else◌}
use Rattle.std.proofs.Common.{arith}
use Rattle.sysmem_formats.specs.declared.pixel_format.PixelFormat.{PixelFormat}
use Rattle.sysmem_formats.specs.declared.modifier.Modifier.{Modifier}
use Rattle.sysmem_formats.specs.declared.offer.Offer.{Offer}
use Rattle.sysmem_formats.specs.declared.offer.Offer.TheVariants.{NoImage, Image}
use Rattle.sysmem_formats.specs.Codes.{format_code, modifier_code}
use Rattle.sysmem_formats.specs.Layout.{bytes_per_pixel_of}
use Rattle.sysmem_image.specs.declared.bounds.ImageBounds.{ImageBounds}
use Rattle.sysmem_image.specs.declared.entry.Entry.{Entry}
use Rattle.sysmem_image.specs.declared.entry.EntryBounds.{EntryBounds}
use Rattle.sysmem_image.specs.Colours.{accepts}

-- whether an entry's format, None being DO_NOT_CARE, is that of the offer
abbrev pub agrees_format : PixelFormat → Option PixelFormat → Bool
agrees_format own None = true
agrees_format own (Some format) = format_code format == format_code own

-- whether an entry's modifier, None being DO_NOT_CARE, is that of the offer
abbrev pub agrees_modifier : Modifier → Option Modifier → Bool
agrees_modifier own None = true
agrees_modifier own (Some modifier) = modifier_code modifier == modifier_code own

-- whether the entry is one for the offer; no entry is one for no image
abbrev pub matches : Offer → Entry → Bool
matches NoImage entry = false
matches (Image pair _) entry =
    agrees_format pair.format entry.format && agrees_modifier pair.modifier entry.modifier

-- a participant's entry for the offer: the first of its list that matches
abbrev pub first_match : Offer → List Entry → Option Entry
first_match o entries = find (matches o) entries

-- whether the entry's colour spaces contain the offer's, or DO_NOT_CARE; no image has none
abbrev pub takes_colour : Offer → Entry → Bool
takes_colour NoImage entry = true
takes_colour (Image _ colour) entry = accepts entry.colours colour

-- the least common multiple of a pixel's bytes, of which there are at most four, and a divisor
abbrev pub pixel_multiple : ℕ → ℕ → ℕ
pixel_multiple pixel divisor =
    if divisor % pixel == 0 then divisor
    else if 2 * divisor % pixel == 0 then 2 * divisor
    else pixel * divisor

-- what the bytes of a row are a multiple of for an entry: its divisor, and of a pixel's
-- bytes too where a row must end at one
abbrev pub row_divisor_asked : Offer → EntryBounds → ℕ
row_divisor_asked o e =
    if e.at_pixel_boundary then pixel_multiple (bytes_per_pixel_of o) e.asked.bytes_per_row_divisor
    else e.asked.bytes_per_row_divisor

pub some_max : (n : ℕ) → 1 ≤ max n 1
some_max n = omega arith

-- the bounds that an entry puts on an offer, whose row divisor is 1 or more, as all are
abbrev pub effective : Offer → Entry → ImageBounds
effective o entry = record entry.bounds.asked {
  bytes_per_row_divisor = max (row_divisor_asked o entry.bounds) 1;
  row_divisor_some = some_max (row_divisor_asked o entry.bounds);
}

-- the bounds that each entry of a list puts on an offer
abbrev pub effective_all : Offer → List Entry → List ImageBounds
effective_all o entries = map (effective o) entries
