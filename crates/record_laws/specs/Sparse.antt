-- The record that is written of a participant and of a platform: the value that states it, without
-- the fields whose values are what an absent field stands for.
use Rattle.std.specs.Prelude.{ℕ, Bool, true, false, List, [], ◌∷◌, ◌++◌, map, ◌==◌, ◌&&◌}
use Rattle.std.specs.Prelude.{Option, Some, None, codes, if◌then◌else◌}
use Rattle.std.specs.Int.RustNames.{bit_and}
use Rattle.serde_json.specs.Data.{Data, boolean, string, array, object, Items, no_items, item}
use Rattle.serde_json.specs.Data.{Members, no_members, member, put}
use Rattle.serde_json.specs.View.{items_of}
use Rattle.sysmem_counts.specs.declared.constraints.CountConstraints.{CountConstraints}
use Rattle.sysmem_counts.specs.declared.field.Field.{Field}
use Rattle.sysmem_counts.specs.declared.field.Field.TheVariants as field
use Rattle.sysmem_counts.specs.declared.usage.Usage.{Usage}
use Rattle.sysmem_counts.specs.Bounds.{most_number}
use Rattle.sysmem_counts.specs.Families.{families}
use Rattle.sysmem_counts.specs.Field.{field_name}
use Rattle.sysmem_counts.specs.Usage.{usage_bits}
use Rattle.sysmem_formats.specs.declared.colour_space.ColourSpace.TheVariants.{Srgb, Rec601Ntsc}
use Rattle.sysmem_formats.specs.declared.colour_space.ColourSpace.TheVariants.{Rec601NtscFullRange}
use Rattle.sysmem_formats.specs.declared.colour_space.ColourSpace.TheVariants.{Rec601Pal}
use Rattle.sysmem_formats.specs.declared.colour_space.ColourSpace.TheVariants.{Rec601PalFullRange}
use Rattle.sysmem_formats.specs.declared.colour_space.ColourSpace.TheVariants.{Rec709, Rec2020}
use Rattle.sysmem_formats.specs.declared.colour_space.ColourSpace.TheVariants.{Rec2100}
use Rattle.sysmem_formats.specs.declared.modifier.Modifier.{Modifier}
use Rattle.sysmem_formats.specs.declared.modifier.Modifier.TheVariants.{Linear, IntelXTiled}
use Rattle.sysmem_formats.specs.declared.modifier.Modifier.TheVariants.{IntelYTiled}
use Rattle.sysmem_formats.specs.declared.offer.Pair.{Pair}
use Rattle.sysmem_formats.specs.declared.pixel_format.PixelFormat.{PixelFormat}
use Rattle.sysmem_formats.specs.Names.{format_name, modifier_name, colour_name}
use Rattle.sysmem_image.specs.declared.bounds.ImageBounds.{ImageBounds}
use Rattle.sysmem_image.specs.declared.colours.ColourSet.{ColourSet}
use Rattle.sysmem_image.specs.declared.entry.Entry.{Entry}
use Rattle.sysmem_image.specs.declared.entry.EntryBounds.{EntryBounds}
use Rattle.sysmem_image.specs.declared.size.Size.{Size}
use Rattle.sysmem_image.specs.Fields.{Bound, Width, all_bounds, field_of, is_size, value, sides_of}
use Rattle.sysmem_image.specs.Fields.{absent}
use Rattle.sysmem_memory.specs.declared.domain.CoherencyDomain.TheVariants.{Cpu, Ram, Inaccessible}
use Rattle.sysmem_memory.specs.declared.domain.CoherencyDomains.{CoherencyDomains}
use Rattle.sysmem_memory.specs.Domain.{domain_name}
use Rattle.sysmem_memory.specs.Heap.{HeapName, HeapFacts}
use Rattle.sysmem_memory.specs.Wishes.{MemoryWishes}
use Rattle.negotiation_inputs.specs.Participant.{Participant}
use Rattle.negotiation_inputs.specs.Platform.{PlatformFacts}
use Rattle.record_laws.specs.Ranges.{most_large}
use Rattle.record_laws.specs.Records.{natural, size_record, choice, colour_record, list}

-- the value, unless its field is left out
abbrev pub unless : Bool → Data → Option Data
unless true d = None
unless false d = Some d

-- the members, and a field where it has a value
unfoldable pub with_field : Members → Field → Option Data → Members
with_field ms field None = ms
with_field ms field (Some d) = put (field_name field) d ms

-- the members, and those of the fields that have a value
abbrev pub with_fields : Members → List (Field × Option Data) → Members
with_fields ms [] = ms
with_fields ms (f ∷ fs) = with_fields (with_field ms f.0 f.1) fs

-- an object of the fields that have a value
abbrev pub fields_said : List (Field × Option Data) → Data
fields_said fs = object (with_fields no_members fs)

-- a number, unless it is what an absent one stands for
abbrev pub number_said : ℕ → ℕ → Option Data
number_said absent n = unless (n == absent) (natural n)

-- a flag that is false where it is absent
abbrev pub true_said : Bool → Option Data
true_said true = Some (boolean true)
true_said false = None

-- a flag that is true where it is absent
abbrev pub false_said : Bool → Option Data
false_said true = None
false_said false = Some (boolean false)

-- a size, unless both of its sides are what absent ones stand for
abbrev pub size_said : ℕ → Size → Option Data
size_said absent s = unless (s.width == absent && s.height == absent) (size_record s)

-- a list, unless it is empty
abbrev pub list_said : Items → Option Data
list_said no_items = None
list_said (item d ds) = Some (array (item d ds))

-- an object, unless it has no members
abbrev pub object_said : Members → Option Data
object_said no_members = None
object_said (member key d ms) = Some (object (member key d ms))

-- the names, and one more if it is wanted
unfoldable pub with_name : List Data → Bool → List ℕ → List Data
with_name ds true name = ds ++ string name ∷ []
with_name ds false name = ds

-- the names, and those of others that are wanted
abbrev pub with_names : List Data → List (Bool × List ℕ) → List Data
with_names ds [] = ds
with_names ds (n ∷ ns) = with_names (with_name ds n.0 n.1) ns

-- a list of the names that are wanted
abbrev pub names_said : List (Bool × List ℕ) → Data
names_said ns = array (items_of (with_names [] ns))

-- the families, and whether a usage has them
abbrev pub families_in : Usage → List (Bool × List ℕ)
families_in usage = map (λ f. (bit_and (usage_bits usage) f.1 == f.1, f.0)) families

-- the domains, and whether a set has them
abbrev pub domains_in : CoherencyDomains → List (Bool × List ℕ)
domains_in s = (s.cpu, domain_name Cpu) ∷ (s.ram, domain_name Ram)
    ∷ (s.inaccessible, domain_name Inaccessible) ∷ []

-- the colour spaces and DO_NOT_CARE, and whether a set lists them
abbrev pub colours_in : ColourSet → List (Bool × List ℕ)
colours_in s = (s.any, codes "DO_NOT_CARE") ∷ (s.srgb, colour_name Srgb)
    ∷ (s.rec601_ntsc, colour_name Rec601Ntsc)
    ∷ (s.rec601_ntsc_full_range, colour_name Rec601NtscFullRange)
    ∷ (s.rec601_pal, colour_name Rec601Pal)
    ∷ (s.rec601_pal_full_range, colour_name Rec601PalFullRange)
    ∷ (s.rec709, colour_name Rec709) ∷ (s.rec2020, colour_name Rec2020)
    ∷ (s.rec2100, colour_name Rec2100) ∷ []

-- what names a heap: its type, and its id where that isn't 0
abbrev pub name_said : HeapName → List (Field × Option Data)
name_said h = (field.HeapType, Some (string h.heap_type)) ∷ (field.Id, number_said 0 h.id) ∷ []

-- a permitted heap
abbrev pub permitted_written : HeapName → Data
permitted_written h = fields_said (name_said h)

-- what is said of a platform's heap
abbrev pub heap_said : HeapFacts → List (Field × Option Data)
heap_said h = name_said h.heap ++ (field.Contiguous, true_said h.contiguous)
    ∷ (field.Secure, true_said h.secure)
    ∷ (field.Domains, Some (names_said (domains_in h.domains))) ∷ []

abbrev pub heap_written : HeapFacts → Data
heap_written h = fields_said (heap_said h)

-- the modifier is the one that an absent field stands for: LINEAR beside a format, DO_NOT_CARE
-- beside DO_NOT_CARE
abbrev pub is_usual : Option PixelFormat → Option Modifier → Bool
is_usual None None = true
is_usual None (Some modifier) = false
is_usual (Some format) None = false
is_usual (Some format) (Some Linear) = true
is_usual (Some format) (Some IntelXTiled) = false
is_usual (Some format) (Some IntelYTiled) = false

-- a format, and its modifier where that isn't the usual one
abbrev pub formats_said : Option PixelFormat → Option Modifier → List (Field × Option Data)
formats_said format modifier = (field.PixelFormat, Some (choice format_name format))
    ∷ (field.PixelFormatModifier, unless (is_usual format modifier) (choice modifier_name modifier))
    ∷ []

-- a platform's pair
abbrev pub pair_written : Pair → Data
pair_written pair = fields_said (formats_said (Some pair.format) (Some pair.modifier))

-- what is said of a platform
abbrev pub platform_said : PlatformFacts → List (Field × Option Data)
platform_said p = (field.Heaps, Some (list heap_written p.heaps))
    ∷ (field.Pairs, Some (list pair_written p.pairs))
    ∷ (field.ColorSpaces, Some (list colour_record p.colours)) ∷ []

-- the record of a platform
abbrev pub platform_written : PlatformFacts → Data
platform_written p = fields_said (platform_said p)

-- the memory constraints
abbrev pub memory_said : MemoryWishes → List (Field × Option Data)
memory_said w =
    (field.MinSizeBytes, number_said 0 w.min_size_bytes)
    ∷ (field.MaxSizeBytes, number_said most_large w.max_size_bytes)
    ∷ (field.PhysicallyContiguousRequired, true_said w.physically_contiguous_required)
    ∷ (field.SecureRequired, true_said w.secure_required)
    ∷ (field.CpuDomainSupported, false_said w.cpu_domain_supported)
    ∷ (field.RamDomainSupported, true_said w.ram_domain_supported)
    ∷ (field.InaccessibleDomainSupported, true_said w.inaccessible_domain_supported)
    ∷ (field.PermittedHeaps, list_said (items_of (map permitted_written w.permitted_heaps)))
    ∷ []

-- a bound: a size or a number, unless it is what an absent one stands for
abbrev pub bound_said : ImageBounds → Bound → Option Data
bound_said b f =
    if is_size f then size_said (absent f) (sides_of b f) else number_said (absent f) (value f Width b)

-- an entry's bounds
abbrev pub bounds_said : EntryBounds → List (Field × Option Data)
bounds_said b = map (λ f. (field_of f, bound_said b.asked f)) all_bounds
    ++ (field.RequireBytesPerRowAtPixelBoundary, true_said b.at_pixel_boundary) ∷ []

-- an image entry, with no further pairs
abbrev pub entry_said : Entry → List (Field × Option Data)
entry_said e = formats_said e.format e.modifier
    ++ (field.ColorSpaces, Some (names_said (colours_in e.colours))) ∷ bounds_said e.bounds

abbrev pub entry_written : Entry → Data
entry_written e = fields_said (entry_said e)

-- the buffers that are asked for
abbrev pub counts_said : CountConstraints → List (Field × Option Data)
counts_said c =
    (field.MinBufferCountForCamping, number_said 0 c.min_buffer_count_for_camping)
    ∷ (field.MinBufferCountForDedicatedSlack, number_said 0 c.min_buffer_count_for_dedicated_slack)
    ∷ (field.MinBufferCountForSharedSlack, number_said 0 c.min_buffer_count_for_shared_slack)
    ∷ (field.MinBufferCount, number_said 0 c.min_buffer_count)
    ∷ (field.MaxBufferCount, number_said most_number c.max_buffer_count)
    ∷ []

-- what a participant says
abbrev pub participant_said : Participant → List (Field × Option Data)
participant_said p = (field.Usage, Some (names_said (families_in p.usage))) ∷ (counts_said p.counts
    ++ (field.BufferMemoryConstraints, object_said (with_fields no_members (memory_said p.memory)))
    ∷ (field.ImageFormatConstraints, list_said (items_of (map entry_written p.entries))) ∷ [])

-- the record of a participant
abbrev pub participant_written : Participant → Data
participant_written p = fields_said (participant_said p)
