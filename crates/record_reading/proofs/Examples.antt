-- What the definitions say of some records, computed: a record with each fault, records
-- with two, and some that are taken.
use Rattle.std.proofs.Common.{◌≡◌, ℕ, zero, suc, ◌^◌, Bool, true, false, List, [], ◌∷◌, Some, None, Ok, Err, refl}
use Rattle.std.specs.Prelude.{codes, map}
use Rattle.bitflags.specs.Sets.{find_row}
use Rattle.serde_json.specs.Data.{Data, unsigned, boolean, number, string, array, object, Items, no_items, item, Members, no_members, put}
use Rattle.sysmem_counts.specs.declared.field.Field.TheVariants as field
use Rattle.sysmem_formats.specs.declared.colour_space.ColourSpace.TheVariants.{Rec709}
use Rattle.sysmem_formats.specs.declared.modifier.Modifier.TheVariants.{Linear, IntelXTiled}
use Rattle.sysmem_formats.specs.declared.pixel_format.PixelFormat.TheVariants.{B8G8R8A8, NV12}
use Rattle.sysmem_image.specs.declared.colours.ColourSet.{ColourSet}
use Rattle.sysmem_image.specs.declared.entry.Entry.{Entry}
use Rattle.sysmem_image.specs.declared.size.Size.{Size}
use Rattle.sysmem_image.specs.Colours.{no_colours}
use Rattle.sysmem_image.specs.Size.{square}
use Rattle.record_reading.specs.declared.fault.Code.TheVariants as code
use Rattle.record_reading.specs.declared.fault.FaultPlace.TheVariants.{Whole}
use Rattle.record_reading.specs.Faults.{wrong}
use Rattle.negotiation_inputs.specs.Participant.{Participant}
use Rattle.record_reading.specs.Reading.{participant_of, participant_with, platform_of, platform_with}
use Rattle.record_reading.specs.Reading.Bounds.{stated_by}
use Rattle.record_reading.specs.Reading.Entries.{pair_asked}
use Rattle.record_reading.specs.Reading.Fields.{is_key_of, seen_by}
use Rattle.record_reading.specs.Reading.Names.{format_named, modifier_named, colour_named, domain_named}

infixr 5 ◌::◌
-- a member of an object, and more
abbrev ◌::◌ : List ℕ × Data → Members → Members
m :: ms = put m.0 m.1 ms

abbrev text : List ℕ → Data
text name = string name

abbrev count : ℕ → Data
count n = number (unsigned n)

abbrev size : ℕ → ℕ → Data
size width height = object ((codes "width", count width) :: (codes "height", count height) :: no_members)

-- lists of one and of two
abbrev one : Data → Data
one d = array (item d no_items)

abbrev two : Data → Data → Data
two d e = array (item d (item e no_items))

-- a participant of the usage cpu that has this field too
abbrev asking : List ℕ → Data → Data
asking key d = object ((codes "usage", one (text (codes "cpu"))) :: (key, d) :: no_members)

-- the same with entries
abbrev listing : Data → Data
listing ds = asking (codes "image_format_constraints") ds

-- the same that permits heaps
abbrev permitting : Data → Data
permitting ds = asking (codes "buffer_memory_constraints") (object ((codes "permitted_heaps", ds) :: no_members))

abbrev heap : ℕ → Data
heap id = object ((codes "heap_type", text (codes "ram")) :: (codes "id", count id) :: no_members)

-- so many heaps, none of them twice
abbrev heaps : ℕ → Items
heaps zero = no_items
heaps (suc n) = item (heap n) (heaps n)

-- R8 in SRGB, with these fields
abbrev r8 : Members → Data
r8 ms = object ((codes "pixel_format", text (codes "R8")) :: (codes "color_spaces", one (text (codes "SRGB"))) :: ms)

-- a platform of these pairs and this colour space
abbrev platform : Data → List ℕ → Data
platform pairs colour = object ((codes "heaps", one (object ((codes "heap_type", text (codes "ram")) :: (codes "domains", one (text (codes "cpu"))) :: no_members))) :: (codes "pairs", pairs) :: (codes "color_spaces", one (text colour)) :: no_members)

abbrev pair : List ℕ → List ℕ → Data
pair format modifier = object ((codes "pixel_format", text format) :: (codes "pixel_format_modifier", text modifier) :: no_members)

number_is_no_object : participant_of (count 7) ≡ Err (record { code = code.NotAnObject; at = Whole })
number_is_no_object = refl

unknown_field : participant_of (asking (codes "x") (count 1)) ≡ Err (record { code = code.UnknownField; at = Whole })
unfolding is_key_of
unknown_field = refl

count_too_great : participant_of (asking (codes "min_buffer_count") (count (2 ^ 32))) ≡ Err (wrong code.WrongKind field.MinBufferCount)
unfolding is_key_of find_row
count_too_great = refl

unknown_family : participant_of (object ((codes "usage", one (text (codes "gpu"))) :: no_members)) ≡ Err (wrong code.UnknownName field.Usage)
unfolding is_key_of find_row
unknown_family = refl

no_usage : participant_of (object no_members) ≡ Err (wrong code.BadUsage field.Usage)
no_usage = refl

none_beside_cpu : participant_of (object ((codes "usage", two (text (codes "none")) (text (codes "cpu"))) :: no_members)) ≡ Err (wrong code.BadUsage field.Usage)
unfolding is_key_of find_row
none_beside_cpu = refl

no_colour_spaces : participant_of (listing (one (object ((codes "pixel_format", text (codes "R8")) :: no_members)))) ≡ Err (wrong code.NoColourSpaces field.ColorSpaces)
unfolding is_key_of find_row format_named
no_colour_spaces = refl

divisor_too_great : participant_of (listing (one (r8 ((codes "bytes_per_row_divisor", count 65537) :: no_members)))) ≡ Err (wrong code.BadMultiple field.BytesPerRowDivisor)
unfolding is_key_of find_row format_named colour_named
divisor_too_great = refl

pair_twice : participant_of (listing (two (r8 no_members) (r8 no_members))) ≡ Err (wrong code.RepeatedPair field.PixelFormat)
unfolding is_key_of find_row format_named colour_named
pair_twice = refl

tiled_r8 : participant_of (listing (one (r8 ((codes "pixel_format_modifier", text (codes "INTEL_I915_X_TILED")) :: no_members)))) ≡ Err (wrong code.TiledMisfit field.PixelFormat)
unfolding is_key_of find_row format_named modifier_named
tiled_r8 = refl

heap_twice : participant_of (permitting (two (heap 1) (heap 1))) ≡ Err (wrong code.RepeatedHeap field.PermittedHeaps)
unfolding is_key_of find_row
heap_twice = refl

heap_beyond_64 : participant_of (permitting (array (heaps 65))) ≡ Err (wrong code.TooMany field.PermittedHeaps)
unfolding is_key_of find_row
heap_beyond_64 = refl

pair_listed_twice : platform_of (platform (two (pair (codes "R8") (codes "LINEAR")) (pair (codes "R8") (codes "LINEAR"))) (codes "SRGB")) ≡ Err (wrong code.BadPlatformList field.Pairs)
unfolding is_key_of domain_named format_named modifier_named
pair_listed_twice = refl

platform_of_any_colour : platform_of (platform (one (pair (codes "R8") (codes "LINEAR"))) (codes "DO_NOT_CARE")) ≡ Err (wrong code.UnknownName field.ColorSpaces)
unfolding is_key_of domain_named format_named modifier_named colour_named
platform_of_any_colour = refl

tiled_platform : platform_of (platform (one (pair (codes "B8G8R8A8") (codes "INTEL_I915_X_TILED"))) (codes "REC709")) ≡ Ok (record {
  heaps = (record { heap = record { heap_type = codes "ram"; id = 0 }; contiguous = false; secure = false; domains = record { cpu = true; ram = false; inaccessible = false } }) ∷ [];
  pairs = (record { format = B8G8R8A8; modifier = IntelXTiled }) ∷ [];
  colours = Rec709 ∷ [];
})
unfolding is_key_of domain_named format_named modifier_named colour_named
tiled_platform = refl

-- records with two faults, of which the first in the order is named

no_object_before_usage : participant_of (object ((codes "usage", one (text (codes "gpu"))) :: (codes "x", count 1) :: no_members)) ≡ Err (record { code = code.UnknownField; at = Whole })
unfolding is_key_of find_row
no_object_before_usage = refl

usage_before_counts : participant_of (object ((codes "usage", one (text (codes "gpu"))) :: (codes "min_buffer_count", count (2 ^ 32)) :: no_members)) ≡ Err (wrong code.UnknownName field.Usage)
unfolding is_key_of find_row
usage_before_counts = refl

items_before_their_list : participant_of (object ((codes "usage", array (item (text (codes "none")) (item (text (codes "cpu")) (item (text (codes "gpu")) no_items)))) :: no_members)) ≡ Err (wrong code.UnknownName field.Usage)
unfolding is_key_of find_row
items_before_their_list = refl

memory_before_entries : participant_of (object ((codes "usage", one (text (codes "cpu"))) :: (codes "image_format_constraints", count 7) :: (codes "buffer_memory_constraints", object ((codes "permitted_heaps", two (heap 1) (heap 1)) :: no_members)) :: no_members)) ≡ Err (wrong code.RepeatedHeap field.PermittedHeaps)
unfolding is_key_of find_row
memory_before_entries = refl

pair_before_colours : participant_of (listing (one (object ((codes "pixel_format", text (codes "R8")) :: (codes "pixel_format_modifier", text (codes "INTEL_I915_X_TILED")) :: no_members)))) ≡ Err (wrong code.TiledMisfit field.PixelFormat)
unfolding is_key_of find_row format_named modifier_named
pair_before_colours = refl

colours_before_bounds : participant_of (listing (one (object ((codes "pixel_format", text (codes "R8")) :: (codes "bytes_per_row_divisor", count 65537) :: no_members)))) ≡ Err (wrong code.NoColourSpaces field.ColorSpaces)
unfolding is_key_of find_row format_named
colours_before_bounds = refl

kind_before_range : participant_of (listing (one (r8 ((codes "size_alignment", object ((codes "width", count 0) :: (codes "height", text (codes "x")) :: no_members)) :: no_members)))) ≡ Err (wrong code.WrongKind field.SizeAlignment)
unfolding is_key_of find_row format_named colour_named
kind_before_range = refl

heaps_before_pairs : platform_of (object ((codes "heaps", array no_items) :: (codes "pairs", count 7) :: (codes "color_spaces", count 7) :: no_members)) ≡ Err (wrong code.BadPlatformList field.Heaps)
unfolding is_key_of
heaps_before_pairs = refl

misfit_before_repeat : platform_of (platform (two (pair (codes "R8") (codes "LINEAR")) (pair (codes "R8") (codes "INTEL_I915_X_TILED"))) (codes "DO_NOT_CARE")) ≡ Err (wrong code.TiledMisfit field.Pairs)
unfolding is_key_of domain_named format_named modifier_named
misfit_before_repeat = refl

-- records while memory for a field is refused

no_memory_for_heaps : participant_with (Some field.PermittedHeaps) (permitting (two (heap 1) (count 7))) ≡ Err (wrong code.WantOfMemory field.PermittedHeaps)
unfolding is_key_of find_row
no_memory_for_heaps = refl

fault_before_memory : participant_with (Some field.PermittedHeaps) (permitting (one (count 7))) ≡ Err (wrong code.NotAnObject field.PermittedHeaps)
unfolding is_key_of find_row
fault_before_memory = refl

no_memory_for_type : participant_with (Some field.HeapType) (permitting (one (object ((codes "heap_type", text (codes "ram")) :: (codes "id", text (codes "x")) :: no_members)))) ≡ Err (wrong code.WantOfMemory field.HeapType)
unfolding is_key_of find_row
no_memory_for_type = refl

no_memory_for_entries : participant_with (Some field.ImageFormatConstraints) (listing (two (r8 no_members) (r8 no_members))) ≡ Err (wrong code.WantOfMemory field.ImageFormatConstraints)
unfolding is_key_of find_row format_named colour_named
no_memory_for_entries = refl

no_memory_for_platform_pairs : platform_with (Some field.Pairs) (platform (one (pair (codes "R8") (codes "LINEAR"))) (codes "DO_NOT_CARE")) ≡ Err (wrong code.WantOfMemory field.Pairs)
unfolding is_key_of domain_named format_named modifier_named
no_memory_for_platform_pairs = refl

-- what is absent
usage_alone : participant_of (object ((codes "usage", one (text (codes "display"))) :: no_members)) ≡ Ok (record {
  usage = record { 0 = 8 };
  counts = record { min_buffer_count_for_camping = 0; min_buffer_count_for_dedicated_slack = 0; min_buffer_count_for_shared_slack = 0; min_buffer_count = 0; max_buffer_count = 4294967295 };
  memory = record { min_size_bytes = 0; max_size_bytes = 18446744073709551615; physically_contiguous_required = false; secure_required = false; cpu_domain_supported = true; ram_domain_supported = false; inaccessible_domain_supported = false; permitted_heaps = [] };
  entries = [];
})
unfolding is_key_of find_row
usage_alone = refl

-- a participant that has each field
abbrev memory : Data
memory = object ((codes "min_size_bytes", count 6) :: (codes "max_size_bytes", count 7) :: (codes "physically_contiguous_required", boolean true) :: (codes "secure_required", boolean true)
    :: (codes "cpu_domain_supported", boolean false) :: (codes "ram_domain_supported", boolean true) :: (codes "inaccessible_domain_supported", boolean true) :: (codes "permitted_heaps", one (heap 8)) :: no_members)

abbrev entry : Data
entry = object ((codes "pixel_format", text (codes "NV12")) :: (codes "pixel_format_modifier", text (codes "LINEAR")) :: (codes "pixel_format_and_modifiers", one (object ((codes "pixel_format", text (codes "DO_NOT_CARE")) :: no_members)))
    :: (codes "color_spaces", two (text (codes "SRGB")) (text (codes "DO_NOT_CARE"))) :: (codes "min_size", size 0 9) :: (codes "max_size", size 10 11) :: (codes "size_alignment", size 12 13)
    :: (codes "min_bytes_per_row", count 0) :: (codes "max_bytes_per_row", count 14) :: (codes "bytes_per_row_divisor", count 15) :: (codes "start_offset_divisor", count 65536)
    :: (codes "display_rect_alignment", size 16 17) :: (codes "required_min_size", size 18 0) :: (codes "required_max_size", size 19 20)
    :: (codes "max_width_times_height", count 21) :: (codes "require_bytes_per_row_at_pixel_boundary", boolean true) :: no_members)

abbrev whole : Data
whole = object ((codes "usage", two (text (codes "cpu")) (text (codes "video"))) :: (codes "min_buffer_count_for_camping", count 1) :: (codes "min_buffer_count_for_dedicated_slack", count 2) :: (codes "min_buffer_count_for_shared_slack", count 3)
    :: (codes "min_buffer_count", count 4) :: (codes "max_buffer_count", count 5) :: (codes "buffer_memory_constraints", memory) :: (codes "image_format_constraints", one entry) :: no_members)

usage_whole : seen_by (λ (p : Participant). p.usage) (participant_of whole) ≡ Ok (record { 0 = 18 })
unfolding is_key_of find_row format_named modifier_named colour_named
usage_whole = refl

counts_whole : seen_by (λ (p : Participant). p.counts) (participant_of whole)
    ≡ Ok (record { min_buffer_count_for_camping = 1; min_buffer_count_for_dedicated_slack = 2; min_buffer_count_for_shared_slack = 3; min_buffer_count = 4; max_buffer_count = 5 })
unfolding is_key_of find_row format_named modifier_named colour_named
counts_whole = refl

memory_whole : seen_by (λ (p : Participant). p.memory) (participant_of whole)
    ≡ Ok (record { min_size_bytes = 6; max_size_bytes = 7; physically_contiguous_required = true; secure_required = true; cpu_domain_supported = false; ram_domain_supported = true; inaccessible_domain_supported = true; permitted_heaps = (record { heap_type = codes "ram"; id = 8 }) ∷ [] })
unfolding is_key_of find_row format_named modifier_named colour_named
memory_whole = refl

abbrev sides : ℕ → ℕ → Size
sides width height = record { width = width; height = height }

-- the values of the fields in the table's order
abbrev bounds : List Size × Bool
bounds = (sides 1 9 ∷ sides 10 11 ∷ sides 12 13 ∷ square 1 ∷ square 14 ∷ square 15 ∷ square 65536 ∷ sides 16 17 ∷ sides 18 1 ∷ sides 19 20 ∷ square 21 ∷ [], true)

abbrev colours : ColourSet
colours = record no_colours { any = true; srgb = true }

-- its entry stands for two, which share all but the pair
pairs_whole : seen_by (λ (p : Participant). map pair_asked p.entries) (participant_of whole)
    ≡ Ok ((record { format = Some NV12; modifier = Some Linear }) ∷ (record { format = None; modifier = None }) ∷ [])
unfolding is_key_of find_row format_named modifier_named colour_named
pairs_whole = refl

colours_whole : seen_by (λ (p : Participant). map (λ (e : Entry). e.colours) p.entries) (participant_of whole) ≡ Ok (colours ∷ colours ∷ [])
unfolding is_key_of find_row format_named modifier_named colour_named
colours_whole = refl

bounds_whole : seen_by (λ (p : Participant). map (λ (e : Entry). stated_by e.bounds) p.entries) (participant_of whole) ≡ Ok (bounds ∷ bounds ∷ [])
unfolding is_key_of find_row format_named modifier_named colour_named
bounds_whole = refl
