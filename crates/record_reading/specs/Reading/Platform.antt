-- What a platform's record says.
use Rattle.std.specs.Prelude.{◌++◌, ◌==◌, List, [], ◌∷◌, length, not, Option, None, Result, Ok}
use Rattle.serde_json.specs.Data.{Data}
use Rattle.sysmem_counts.specs.declared.field.Field.{Field}
use Rattle.sysmem_counts.specs.declared.field.Field.TheVariants as field
use Rattle.sysmem_formats.specs.declared.colour_space.ColourSpace.{ColourSpace}
use Rattle.sysmem_formats.specs.declared.modifier.Modifier.TheVariants.{Linear}
use Rattle.sysmem_formats.specs.declared.offer.Pair.{Pair}
use Rattle.record_reading.specs.declared.fault.Code.TheVariants as code
use Rattle.record_reading.specs.declared.fault.Fault.{Fault}
use Rattle.record_reading.specs.declared.fault.FaultPlace.TheVariants.{Whole, At}
use Rattle.record_reading.specs.Faults.{wrong}
use Rattle.negotiation_inputs.specs.Platform.{PlatformFacts}
use Rattle.record_reading.specs.Reading.Fields.{◌>>=◌, passing, kept, read_each, object_of}
use Rattle.record_reading.specs.Reading.Fields.{optional, required, list_of, named}
use Rattle.record_reading.specs.Reading.Heaps.{heaps_of}
use Rattle.record_reading.specs.Reading.Names.{format_named, modifier_named, colour_named}
use Rattle.record_reading.specs.Reading.Pairs.{pair_fields, has_pair}
use Rattle.record_reading.specs.Reading.Pairs.{lists_colour, is_tiled_misfit}

-- a format and its modifier, LINEAR if it is missing
abbrev pub pair_of : Data → Result Pair Fault
pair_of d = do
  _ ← object_of (At field.Pairs) pair_fields d
  format ← required field.PixelFormat (named format_named field.PixelFormat) d
  modifier ← optional field.PixelFormatModifier Linear
      (named modifier_named field.PixelFormatModifier) d
  Ok (record { format = format; modifier = modifier })

-- the pairs, and the one that an item states: no tiled misfit, and not there yet
abbrev pub with_pair : Option Field → List Pair → Data → Result (List Pair) Fault
with_pair lack pairs d = do
  pair ← pair_of d
  fitting ← passing (wrong code.TiledMisfit field.Pairs) (λ pair. not (is_tiled_misfit pair)) pair
  new ← passing (wrong code.BadPlatformList field.Pairs) (λ pair. not (has_pair pairs pair)) fitting
  kept lack field.Pairs (pairs ++ new ∷ [])

-- a list of pairs that isn't empty, with none twice
abbrev pub pairs_of : Option Field → Data → Result (List Pair) Fault
pairs_of lack d = do
  items ← list_of field.Pairs d
  pairs ← read_each (with_pair lack) [] items
  passing (wrong code.BadPlatformList field.Pairs) (λ pairs. not (length pairs == 0)) pairs

-- the colour spaces, and the one that an item names, which isn't there yet
abbrev pub with_new_colour : Option Field → List ColourSpace → Data
    → Result (List ColourSpace) Fault
with_new_colour lack colours d = do
  colour ← named colour_named field.ColorSpaces d
  new ← passing (wrong code.BadPlatformList field.ColorSpaces)
      (λ colour. not (lists_colour colours colour)) colour
  kept lack field.ColorSpaces (colours ++ new ∷ [])

-- a list of colour spaces that isn't empty, with none twice
abbrev pub colours_of : Option Field → Data → Result (List ColourSpace) Fault
colours_of lack d = do
  items ← list_of field.ColorSpaces d
  colours ← read_each (with_new_colour lack) [] items
  passing (wrong code.BadPlatformList field.ColorSpaces) (λ colours. not (length colours == 0))
      colours

-- the fields of a platform
abbrev pub platform_fields : List Field
platform_fields = field.Heaps ∷ field.Pairs ∷ field.ColorSpaces ∷ []

-- the platform that a value states, or its first fault, while memory for one field, or for none, is
-- refused
abbrev pub platform_with : Option Field → Data → Result PlatformFacts Fault
platform_with lack d = do
  _ ← object_of Whole platform_fields d
  heaps ← required field.Heaps (heaps_of lack) d
  pairs ← required field.Pairs (pairs_of lack) d
  colours ← required field.ColorSpaces (colours_of lack) d
  Ok (record { heaps = heaps; pairs = pairs; colours = colours })

-- the platform that a value states, or its first fault
abbrev pub platform_of : Data → Result PlatformFacts Fault
platform_of d = platform_with None d
