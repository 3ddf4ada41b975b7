-- The record of a participant and of a platform: the value that states it,
-- with each field that it can have.
use Rattle.std.specs.Prelude.{ℕ, Bool, true, false, List, [], ◌∷◌, ◌++◌, map, ◌==◌, Option, Some}
use Rattle.std.specs.Prelude.{None, codes, if◌then◌else◌}
use Rattle.std.specs.Int.RustNames.{bit_and}
use Rattle.serde_json.specs.Data.{Data, unsigned, boolean, number, string, array, object, Items}
use Rattle.serde_json.specs.Data.{no_items, item, Members, no_members, put}
use Rattle.serde_json.specs.View.{items_of}
use Rattle.sysmem_counts.specs.declared.constraints.CountConstraints.{CountConstraints}
use Rattle.sysmem_counts.specs.declared.field.Field.{Field}
use Rattle.sysmem_counts.specs.declared.field.Field.TheVariants as field
use Rattle.sysmem_counts.specs.declared.usage.Usage.{Usage}
use Rattle.sysmem_counts.specs.Families.{families}
use Rattle.sysmem_counts.specs.Field.{field_name}
use Rattle.sysmem_counts.specs.Usage.{usage_bits}
use Rattle.sysmem_formats.specs.declared.colour_space.ColourSpace.{ColourSpace}
use Rattle.sysmem_formats.specs.declared.colour_space.ColourSpace.TheVariants.{Srgb, Rec601Ntsc}
use Rattle.sysmem_formats.specs.declared.colour_space.ColourSpace.TheVariants.{Rec601NtscFullRange}
use Rattle.sysmem_formats.specs.declared.colour_space.ColourSpace.TheVariants.{Rec601Pal}
use Rattle.sysmem_formats.specs.declared.colour_space.ColourSpace.TheVariants.{Rec601PalFullRange}
use Rattle.sysmem_formats.specs.declared.colour_space.ColourSpace.TheVariants.{Rec709, Rec2020}
use Rattle.sysmem_formats.specs.declared.colour_space.ColourSpace.TheVariants.{Rec2100}
use Rattle.sysmem_formats.specs.declared.offer.Pair.{Pair}
use Rattle.sysmem_formats.specs.Names.{format_name, modifier_name, colour_name}
use Rattle.sysmem_image.specs.declared.bounds.ImageBounds.{ImageBounds}
use Rattle.sysmem_image.specs.declared.colours.ColourSet.{ColourSet}
use Rattle.sysmem_image.specs.declared.entry.Entry.{Entry}
use Rattle.sysmem_image.specs.declared.entry.EntryBounds.{EntryBounds}
use Rattle.sysmem_image.specs.declared.size.Size.{Size}
use Rattle.sysmem_image.specs.Fields.{Bound, Width, Height, all_bounds, field_of, is_size, value}
use Rattle.sysmem_memory.specs.declared.domain.CoherencyDomain.TheVariants.{Cpu, Ram, Inaccessible}
use Rattle.sysmem_memory.specs.declared.domain.CoherencyDomains.{CoherencyDomains}
use Rattle.sysmem_memory.specs.Domain.{domain_name}
use Rattle.sysmem_memory.specs.Heap.{HeapName, HeapFacts}
use Rattle.sysmem_memory.specs.Wishes.{MemoryWishes}
use Rattle.negotiation_inputs.specs.Participant.{Participant}
use Rattle.negotiation_inputs.specs.Platform.{PlatformFacts}

-- members of these fields
abbrev pub members : List (Field × Data) → Members
members [] = no_members
members (m ∷ ms) = put (field_name m.0) m.1 (members ms)

-- an object of these fields
abbrev pub fields : List (Field × Data) → Data
fields ms = object (members ms)

-- a list, of which each item is stated so
abbrev pub list : {A : Type 0} → (A → Data) → List A → Data
list state xs = array (items_of (map state xs))

-- a whole number
abbrev pub natural : ℕ → Data
natural n = number (unsigned n)

-- the item, where it is wanted, before these
abbrev pub item_if : Bool → Data → Items → Items
item_if true d ds = item d ds
item_if false d ds = ds

-- the name of a choice: None is DO_NOT_CARE
abbrev pub choice : {X : Type 0} → (X → List ℕ) → Option X → Data
choice name_of None = string (codes "DO_NOT_CARE")
choice name_of (Some x) = string (name_of x)

-- the families whose bits are among these
abbrev pub family_items : ℕ → List (List ℕ × ℕ) → Items
family_items bits [] = no_items
family_items bits (family ∷ rest) =
    item_if (bit_and bits family.1 == family.1) (string family.0) (family_items bits rest)

-- the names of a usage's families
abbrev pub usage_record : Usage → Data
usage_record usage = array (family_items (usage_bits usage) families)

-- what names a heap
abbrev pub name_members : HeapName → List (Field × Data)
name_members h = (field.HeapType, string h.heap_type) ∷ (field.Id, natural h.id) ∷ []

-- a permitted heap
abbrev pub heap_name_record : HeapName → Data
heap_name_record h = fields (name_members h)

-- the names of the domains that are in a set
abbrev pub domain_items : CoherencyDomains → Items
domain_items s = item_if s.cpu (string (domain_name Cpu)) (item_if s.ram (string (domain_name Ram))
    (item_if s.inaccessible (string (domain_name Inaccessible)) no_items))

-- a platform's heap
abbrev pub heap_record : HeapFacts → Data
heap_record h = fields (name_members h.heap ++ (field.Contiguous, boolean h.contiguous)
    ∷ (field.Secure, boolean h.secure) ∷ (field.Domains, array (domain_items h.domains)) ∷ [])

abbrev pub pair_record : Pair → Data
pair_record pair = fields ((field.PixelFormat, string (format_name pair.format))
    ∷ (field.PixelFormatModifier, string (modifier_name pair.modifier)) ∷ [])

abbrev pub colour_record : ColourSpace → Data
colour_record colour = string (colour_name colour)

-- the record of a platform
abbrev pub platform_record : PlatformFacts → Data
platform_record p = fields ((field.Heaps, list heap_record p.heaps)
    ∷ (field.Pairs, list pair_record p.pairs) ∷ (field.ColorSpaces, list colour_record p.colours)
    ∷ [])

-- the memory constraints, no field left out
abbrev pub memory_record : MemoryWishes → Data
memory_record w = fields (
    (field.MinSizeBytes, natural w.min_size_bytes)
    ∷ (field.MaxSizeBytes, natural w.max_size_bytes)
    ∷ (field.PhysicallyContiguousRequired, boolean w.physically_contiguous_required)
    ∷ (field.SecureRequired, boolean w.secure_required)
    ∷ (field.CpuDomainSupported, boolean w.cpu_domain_supported)
    ∷ (field.RamDomainSupported, boolean w.ram_domain_supported)
    ∷ (field.InaccessibleDomainSupported, boolean w.inaccessible_domain_supported)
    ∷ (field.PermittedHeaps, list heap_name_record w.permitted_heaps)
    ∷ [])

-- the colour spaces that an entry lists
abbrev pub colour_items : ColourSet → Items
colour_items set =
    item_if set.any (string (codes "DO_NOT_CARE"))
    (item_if set.srgb (colour_record Srgb)
    (item_if set.rec601_ntsc (colour_record Rec601Ntsc)
    (item_if set.rec601_ntsc_full_range (colour_record Rec601NtscFullRange)
    (item_if set.rec601_pal (colour_record Rec601Pal)
    (item_if set.rec601_pal_full_range (colour_record Rec601PalFullRange)
    (item_if set.rec709 (colour_record Rec709)
    (item_if set.rec2020 (colour_record Rec2020)
    (item_if set.rec2100 (colour_record Rec2100)
    no_items))))))))

abbrev pub size_record : Size → Data
size_record size = object (put (codes "width") (natural size.width)
    (put (codes "height") (natural size.height) no_members))

-- the value of a bound: a size, or a number
abbrev pub bound_record : ImageBounds → Bound → Data
bound_record b f =
    if is_size f then size_record (record { width = value f Width b; height = value f Height b })
    else natural (value f Width b)

-- the fields of bounds, none of them left out
abbrev pub bounds_fields : EntryBounds → List (Field × Data)
bounds_fields b = map (λ f. (field_of f, bound_record b.asked f)) all_bounds
    ++ (field.RequireBytesPerRowAtPixelBoundary, boolean b.at_pixel_boundary) ∷ []

-- an image entry, with no further pairs
abbrev pub entry_record : Entry → Data
entry_record entry = fields (
    (field.PixelFormat, choice format_name entry.format)
    ∷ (field.PixelFormatModifier, choice modifier_name entry.modifier)
    ∷ (field.ColorSpaces, array (colour_items entry.colours))
    ∷ bounds_fields entry.bounds)

-- what an object of constraints says of counts
abbrev pub count_fields : CountConstraints → List (Field × Data)
count_fields c =
    (field.MinBufferCountForCamping, natural c.min_buffer_count_for_camping)
    ∷ (field.MinBufferCountForDedicatedSlack, natural c.min_buffer_count_for_dedicated_slack)
    ∷ (field.MinBufferCountForSharedSlack, natural c.min_buffer_count_for_shared_slack)
    ∷ (field.MinBufferCount, natural c.min_buffer_count)
    ∷ (field.MaxBufferCount, natural c.max_buffer_count)
    ∷ []

-- the record of a participant
abbrev pub participant_record : Participant → Data
participant_record p = fields (
    (field.Usage, usage_record p.usage)
    ∷ (field.BufferMemoryConstraints, memory_record p.memory)
    ∷ (field.ImageFormatConstraints, list entry_record p.entries)
    ∷ count_fields p.counts)
