-- Who takes a format in some modifier.
use Rattle.std.specs.Prelude.{Bool, true, false, not, ◌&&◌, List, [], find, is_some}
use Rattle.sysmem_counts.specs.declared.field.Field.{Field}
use Rattle.sysmem_counts.specs.declared.field.Field.TheVariants.{PixelFormat, PixelFormatModifier}
use Rattle.sysmem_formats.specs.declared.offer.Offer.{Offer}
use Rattle.sysmem_formats.specs.declared.offer.Offer.TheVariants as offer
use Rattle.sysmem_formats.specs.declared.pixel_format.PixelFormat as of
use Rattle.sysmem_image.specs.Entries.{agrees_format}
use Rattle.sysmem_image.specs.declared.entry.Entry.{Entry}
use Rattle.negotiation_inputs.specs.Participant.{Participant}

-- an entry is for the format, by its name or by DO_NOT_CARE
abbrev pub is_for_format : of.PixelFormat → Entry → Bool
is_for_format format entry = agrees_format format entry.format

-- none of some entries is for the format, and there is one
abbrev pub lack_format : of.PixelFormat → List Entry → Bool
lack_format format [] = false
lack_format format entries = not (is_some (find (is_for_format format) entries))

-- the participant has entries, and none for the format
abbrev pub lacks_format : of.PixelFormat → Participant → Bool
lacks_format format p = lack_format format p.entries

-- all take the format of an image, in some modifier
abbrev pub take_format : Offer → List Participant → Bool
take_format offer.NoImage ps = false
take_format (offer.Image pair colour) ps = not (is_some (find (lacks_format pair.format) ps))

-- the field that is told of a line: of a format that all take in some modifier, the modifier's
abbrev pub told_line : Bool → Field → Field
told_line true PixelFormat = PixelFormatModifier
told_line _ line = line
