-- The settings that an object of a certificate says.
use Rattle.std.specs.Prelude.{ℕ, ◌-◌, ◌^◌, ◌&&◌, ◌==◌, Bool, List, [], ◌∷◌, length, Option}
use Rattle.std.specs.Prelude.{Some, None, codes, bytes_eq, is_some, option_map, position}
use Rattle.std.specs.Prelude.{slice_get, nat_le, if◌then◌else◌}
use Rattle.serde_json.specs.Data.{Data}
use Rattle.serde_json.specs.Find.{get, as_null, as_str}
use Rattle.sysmem_counts.specs.declared.field.Field.{Field}
use Rattle.sysmem_counts.specs.declared.field.Field.TheVariants as field
use Rattle.sysmem_counts.specs.Field.{field_name}
use Rattle.sysmem_formats.specs.declared.offer.Offer.{Offer}
use Rattle.sysmem_formats.specs.declared.offer.Offer.TheVariants.{NoImage, Image}
use Rattle.sysmem_image.specs.declared.bounds.ImageBounds.{ImageBounds}
use Rattle.sysmem_image.specs.declared.size.Size.{Size}
use Rattle.sysmem_image.specs.Fields.{Bound, MaxWidthTimesHeight, all_bounds, field_of, is_size}
use Rattle.sysmem_image.specs.Fields.{absent, bounds_with, value_among}
use Rattle.sysmem_image.specs.Size.{square}
use Rattle.sysmem_counts.specs.Bounds.{most_number}
use Rattle.sysmem_memory.specs.declared.domain.CoherencyDomain.{CoherencyDomain}
use Rattle.sysmem_memory.specs.declared.place.Place.{Place}
use Rattle.sysmem_memory.specs.Domain.{has_domain}
use Rattle.sysmem_memory.specs.Heap.{HeapFacts}
use Rattle.sysmem_merge.specs.declared.settings.Settings.{Settings}
use Rattle.negotiation_inputs.specs.Platform.{PlatformFacts}
use Rattle.record_reading.specs.Reading.Names.{format_named, modifier_named}
use Rattle.record_reading.specs.Reading.Names.{colour_named, domain_named}
use Rattle.negotiation_inputs.specs.Pairs.{has_pair, lists_colour}
use Rattle.certificate_text.specs.Reading.{◌>>=◌, is_object_of, number_to, at_key, named_at}

-- ---- bounds

-- a number of 32 bits
abbrev pub any_number : Field → Data → Option ℕ
any_number field d = at_key (field_name field) (number_to most_number) d

abbrev pub unless_zero : ℕ → Option ℕ
unless_zero n = if nat_le 1 n then Some n else None

-- one that isn't 0
abbrev pub some_number : Field → Data → Option ℕ
some_number field d = any_number field d >>= unless_zero

-- a height and a width of 32 bits
abbrev pub size_said : Data → Option Size
size_said d = do
  _ ← is_object_of 2 d
  width ← at_key (codes "width") (number_to most_number) d
  height ← at_key (codes "height") (number_to most_number) d
  Some (record { width = width; height = height })

abbrev pub any_size : Field → Data → Option Size
any_size field d = at_key (field_name field) size_said d

abbrev pub unless_flat : Size → Option Size
unless_flat size = if nat_le 1 size.width && nat_le 1 size.height then Some size else None

-- neither is 0
abbrev pub some_size : Field → Data → Option Size
some_size field d = any_size field d >>= unless_flat

-- the product that was added to the format: where it is missing it is the greatest number
abbrev pub product_said : Option Data → Option ℕ
product_said None = Some (2 ^ 64 - 1)
product_said (Some d) = number_to (2 ^ 64 - 1) d

-- how many fields an object of bounds has
abbrev pub bounds_len : Option Data → ℕ
bounds_len None = length all_bounds - 1
bounds_len (Some d) = length all_bounds

-- a field that is 1 or more: one whose absent value is 1
abbrev pub has_no_zero : Bound → Bool
has_no_zero f = absent f == 1

-- a field's number, as it is written
abbrev pub number_in : Bound → Data → Option ℕ
number_in MaxWidthTimesHeight d = product_said (get (field_name field.MaxWidthTimesHeight) d)
number_in f d = if has_no_zero f then some_number (field_of f) d else any_number (field_of f) d

-- a field's size, as it is written
abbrev pub size_in : Bound → Data → Option Size
size_in f d = if has_no_zero f then some_size (field_of f) d else any_size (field_of f) d

-- what an object of bounds says of a field, which has one number in both dimensions
abbrev pub said_in : Bound → Data → Option Size
said_in f d = if is_size f then size_in f d else option_map square (number_in f d)

-- the same of each field of a list, in its order
abbrev pub said_each : List Bound → Data → Option (List Size)
said_each [] d = Some []
said_each (f ∷ fs) d = do
  value ← said_in f d
  values ← said_each fs d
  Some (value ∷ values)

-- the values of all fields, and no others
abbrev pub values_said : Data → Option (List Size)
values_said d = do
  _ ← is_object_of (bounds_len (get (field_name field.MaxWidthTimesHeight) d)) d
  said_each all_bounds d

-- the bounds of these values
abbrev pub bounds_by : List Size → ImageBounds
bounds_by values = bounds_with (value_among values)

-- the bounds of no entry on no image
abbrev pub no_bounds : ImageBounds
no_bounds = bounds_with (λ f. square (absent f))

-- bounds stand exactly beside an image; without one they are those of no entry
abbrev pub bounds_beside : Offer → Data → Option ImageBounds
bounds_beside NoImage d = option_map (λ _. no_bounds) (as_null d)
bounds_beside (Image pair colour) d = option_map bounds_by (values_said d)

-- ---- offer and place

-- the platform has it
abbrev pub offered : PlatformFacts → Offer → Option Offer
offered platform NoImage = Some NoImage
offered platform (Image pair colour) =
    if has_pair platform.pairs pair && lists_colour platform.colours colour
    then Some (Image pair colour)
    else None

abbrev pub image_said : Data → Option Offer
image_said d = do
  _ ← is_object_of 3 d
  colour ← named_at (codes "color_space") colour_named d
  format ← named_at (field_name field.PixelFormat) format_named d
  modifier ← named_at (field_name field.PixelFormatModifier) modifier_named d
  Some (Image (record { format = format; modifier = modifier }) colour)

-- null is no image
abbrev pub offer_said : PlatformFacts → Data → Option Offer
offer_said platform d =
    if is_some (as_null d) then Some NoImage else image_said d >>= offered platform

-- a heap's number may be left out, and is 0 then
abbrev pub id_said : Option Data → Option ℕ
id_said None = Some 0
id_said (Some d) = number_to (2 ^ 64 - 1) d

abbrev pub heap_len : Option Data → ℕ
heap_len None = 1
heap_len (Some d) = 2

-- the heap has this name
abbrev pub is_heap : List ℕ → ℕ → HeapFacts → Bool
is_heap heap_type id h = bytes_eq h.heap.heap_type heap_type && h.heap.id == id

-- the index of the heap that is named
abbrev pub heap_said : PlatformFacts → Data → Option ℕ
heap_said platform d = do
  _ ← is_object_of (heap_len (get (field_name field.Id) d)) d
  heap_type ← at_key (field_name field.HeapType) as_str d
  id ← id_said (get (field_name field.Id) d)
  position (is_heap heap_type id) platform.heaps

-- the platform has this place
abbrev pub place_at : PlatformFacts → ℕ → CoherencyDomain → Option Place
place_at platform heap coherency = do
  h ← slice_get platform.heaps heap
  if has_domain h.domains coherency then Some (record { heap = heap; coherency = coherency })
      else None

abbrev pub place_said : PlatformFacts → Data → Option Place
place_said platform d = do
  coherency ← named_at (codes "domain") domain_named d
  heap ← at_key (codes "heap") (heap_said platform) d
  place_at platform heap coherency

-- the settings that an object says
abbrev pub settings_said : PlatformFacts → Data → Option Settings
settings_said platform d = do
  _ ← is_object_of 6 d
  count ← at_key (codes "count") (number_to most_number) d
  size_bytes ← at_key (codes "size_bytes") (number_to (2 ^ 64 - 1)) d
  place ← place_said platform d
  offer ← at_key (codes "image") (offer_said platform) d
  bounds ← at_key (codes "bounds") (bounds_beside offer) d
  Some (record {
    offer = offer;
    place = place;
    count = count;
    size_bytes = size_bytes;
    bounds = bounds;
  })
