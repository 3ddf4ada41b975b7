-- The image entries of a participant's record. One with further pairs stands for several.
use Rattle.negotiation_inputs.specs.declared.constraints.TheConstants.{MOST_ENTRIES}
use Rattle.std.specs.Prelude.{◌+◌, ◌||◌, ◌++◌, List, [], ◌∷◌, length, map, Bool, false}
use Rattle.std.specs.Prelude.{not, Option, Some, None, Result, Ok, nat_lt, option_map}
use Rattle.std.specs.Prelude.{option_and_then, is_some, if◌then◌else◌}
use Rattle.std.specs.List.{list_any}
use Rattle.serde_json.specs.Data.{Data, Items}
use Rattle.serde_json.specs.Find.{get, as_array}
use Rattle.sysmem_counts.specs.declared.field.Field.{Field}
use Rattle.sysmem_counts.specs.declared.field.Field.TheVariants as field
use Rattle.sysmem_counts.specs.Field.{field_name}
use Rattle.sysmem_formats.specs.declared.colour_space.ColourSpace.{ColourSpace}
use Rattle.sysmem_formats.specs.declared.modifier.Modifier.{Modifier}
use Rattle.sysmem_formats.specs.declared.modifier.Modifier.TheVariants.{Linear}
use Rattle.sysmem_formats.specs.declared.pixel_format.PixelFormat.{PixelFormat}
use Rattle.sysmem_image.specs.declared.colours.ColourSet.{ColourSet}
use Rattle.sysmem_image.specs.declared.entry.Entry.{Entry}
use Rattle.sysmem_image.specs.declared.entry.EntryBounds.{EntryBounds}
use Rattle.sysmem_image.specs.Colours.{no_colours, with_any, with_colour}
use Rattle.sysmem_image.specs.Fields.{all_bounds, field_of}
use Rattle.negotiation_inputs.specs.declared.asked.AskedPair.{AskedPair}
pub use Rattle.negotiation_inputs.specs.Asked.{same_format, same_modifier, same_asked, asks_misfit}
pub use Rattle.negotiation_inputs.specs.Asked.{pair_asked, is_asked_already}
use Rattle.record_reading.specs.declared.fault.Code.TheVariants as code
use Rattle.record_reading.specs.declared.fault.Fault.{Fault}
use Rattle.record_reading.specs.declared.fault.FaultPlace.TheVariants.{At}
use Rattle.record_reading.specs.Faults.{wrong}
use Rattle.record_reading.specs.Reading.Bounds.{bounds_of}
use Rattle.record_reading.specs.Reading.Fields.{◌>>=◌, passing, kept, read_each}
use Rattle.record_reading.specs.Reading.Fields.{object_of, optional, required, stated}
use Rattle.record_reading.specs.Reading.Fields.{list_of, has_items, named}
use Rattle.record_reading.specs.Reading.Names.{format_named, modifier_named}
use Rattle.record_reading.specs.Reading.Names.{colour_named, choice_named}
use Rattle.record_reading.specs.Reading.Pairs.{pair_fields}

-- the modifier beside a format: if it is missing, LINEAR, or DO_NOT_CARE if the format is
abbrev pub modifier_beside : Option PixelFormat → Data → Result (Option Modifier) Fault
modifier_beside format d = optional field.PixelFormatModifier (option_map (λ _. Linear) format)
    (named (choice_named modifier_named) field.PixelFormatModifier) d

-- the format and the modifier that an object states
abbrev pub asked_of : Data → Result AskedPair Fault
asked_of d = do
  format ← required field.PixelFormat (named (choice_named format_named) field.PixelFormat) d
  modifier ← modifier_beside format d
  Ok (record { format = format; modifier = modifier })

-- one of these pairs asks for the same
abbrev pub has_asked : List AskedPair → AskedPair → Bool
has_asked pairs new = list_any (λ pair. same_asked pair new) pairs

-- the pairs of an entry, and one more that a field gives: none of them or of the entries before
-- asks for the same
abbrev pub with_asked : Option Field → Field → List Entry → List AskedPair → AskedPair
    → Result (List AskedPair) Fault
with_asked lack field entries pairs asked = do
  fitting ← passing (wrong code.TiledMisfit field)
      (λ pair. not (asks_misfit pair.format pair.modifier)) asked
  roomy ← passing (wrong code.TooMany field)
      (λ _. nat_lt (length entries + length pairs) MOST_ENTRIES) fitting
  new ← passing (wrong code.RepeatedPair field)
      (λ pair. not (is_asked_already entries pair || has_asked pairs pair)) roomy
  kept lack field (pairs ++ new ∷ [])

-- there is a list, and an item in it
abbrev pub is_filled : Option Items → Bool
is_filled None = false
is_filled (Some items) = has_items items

-- there is a list of further pairs that isn't empty
abbrev pub has_further : Data → Bool
has_further d =
    is_filled (option_and_then as_array (get (field_name field.PixelFormatAndModifiers) d))

-- an entry without a format has further pairs, and no pair of its own, whatever its modifier is
abbrev pub no_pair : Data → Result (List AskedPair) Fault
no_pair d = do
  _ ← passing (wrong code.WrongKind field.PixelFormat) has_further d
  _ ← modifier_beside None d
  Ok []

-- the entry's own pair
abbrev pub own_pair : Option Field → List Entry → Data → Result (List AskedPair) Fault
own_pair lack entries d =
    if is_some (get (field_name field.PixelFormat) d)
    then asked_of d >>= with_asked lack field.PixelFormat entries []
    else no_pair d

-- the pairs of an entry, and the one that an item of its further pairs states
abbrev pub with_further : Option Field → List Entry → List AskedPair → Data
    → Result (List AskedPair) Fault
with_further lack entries pairs d = do
  _ ← object_of (At field.PixelFormatAndModifiers) pair_fields d
  asked ← asked_of d
  with_asked lack field.PixelFormatAndModifiers entries pairs asked

-- the pairs of an entry, and those that its further pairs state
abbrev pub further_of : Option Field → List Entry → List AskedPair → Data
    → Result (List AskedPair) Fault
further_of lack entries own d = do
  items ← list_of field.PixelFormatAndModifiers d
  read_each (with_further lack entries) own items

-- an entry's own pair, then its further pairs
abbrev pub asked_pairs : Option Field → List Entry → Data → Result (List AskedPair) Fault
asked_pairs lack entries d = do
  own ← own_pair lack entries d
  optional field.PixelFormatAndModifiers own (further_of lack entries own) d

-- the colour spaces, and the one that an item names, or DO_NOT_CARE
abbrev pub with_colour_or_any : ColourSet → Option ColourSpace → ColourSet
with_colour_or_any set None = with_any set
with_colour_or_any set (Some colour) = with_colour set colour

-- the same of an item as it is written
abbrev pub with_listed : ColourSet → Data → Result ColourSet Fault
with_listed set d = do
  colour ← named (choice_named colour_named) field.ColorSpaces d
  Ok (with_colour_or_any set colour)

-- a list of colour spaces that isn't empty
abbrev pub colour_set_of : Data → Result ColourSet Fault
colour_set_of d = do
  items ← list_of field.ColorSpaces d
  filled ← passing (wrong code.NoColourSpaces field.ColorSpaces) has_items items
  read_each with_listed no_colours filled

-- the fields of an entry
abbrev pub entry_fields : List Field
entry_fields = field.PixelFormat ∷ field.PixelFormatModifier ∷ field.PixelFormatAndModifiers
    ∷ field.ColorSpaces ∷ (map field_of all_bounds ++ field.RequireBytesPerRowAtPixelBoundary ∷ [])

-- an object with no other fields than an entry's
abbrev pub entry_object : Data → Result Data Fault
entry_object d = object_of (At field.ImageFormatConstraints) entry_fields d

-- the entry of one of an item's pairs
abbrev pub entry_with : ColourSet → EntryBounds → AskedPair → Entry
entry_with colours bounds pair =
    record { format = pair.format; modifier = pair.modifier; colours = colours; bounds = bounds }

-- the entries, and those that an item stands for: one for each of its pairs, which share its other
-- fields
abbrev pub with_entry : Option Field → List Entry → Data → Result (List Entry) Fault
with_entry lack entries d = do
  _ ← entry_object d
  pairs ← asked_pairs lack entries d
  colours ← stated code.NoColourSpaces field.ColorSpaces d >>= colour_set_of
  bounds ← bounds_of d
  kept lack field.ImageFormatConstraints (entries ++ map (entry_with colours bounds) pairs)

-- a list of items that state entries
abbrev pub entries_of : Option Field → Data → Result (List Entry) Fault
entries_of lack d = do
  items ← list_of field.ImageFormatConstraints d
  read_each (with_entry lack) [] items
