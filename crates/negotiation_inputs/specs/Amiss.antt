-- What is amiss with the parts of a platform or of a participant, by the field that has it.
use Rattle.negotiation_inputs.specs.declared.constraints.TheConstants.{MOST_ENTRIES}
use Rattle.std.specs.Prelude.{◌≡◌, ◌≢◌, ◌<◌, ◌≤◌, List, length, true, false}
use Rattle.std.specs.Prelude.{Some, All, AllPairs, Any}
use Rattle.sysmem_counts.specs.declared.field.Field.{Field}
use Rattle.sysmem_counts.specs.declared.field.Field.TheVariants.{Usage, PermittedHeaps}
use Rattle.sysmem_counts.specs.declared.field.Field.TheVariants.{ImageFormatConstraints}
use Rattle.sysmem_counts.specs.declared.field.Field.TheVariants.{PixelFormatModifier, ColorSpaces}
use Rattle.sysmem_counts.specs.declared.field.Field.TheVariants.{SizeAlignment, StartOffsetDivisor}
use Rattle.sysmem_counts.specs.declared.field.Field.TheVariants.{DisplayRectAlignment}
use Rattle.sysmem_counts.specs.declared.field.Field.TheVariants.{RequiredMinSize}
use Rattle.sysmem_counts.specs.declared.field.Field.TheVariants.{MaxWidthTimesHeight, Heaps, Pairs}
use Rattle.sysmem_counts.specs.declared.field.Field.TheVariants.{HeapType, Domains}
use Rattle.sysmem_counts.specs.declared.usage.Usage.{Usage as Families}
use Rattle.sysmem_formats.specs.declared.colour_space.ColourSpace.{ColourSpace}
use Rattle.sysmem_formats.specs.declared.offer.Pair.{Pair}
use Rattle.sysmem_formats.specs.Layout.{IsTiledMisfit}
use Rattle.sysmem_image.specs.declared.entry.Entry.{Entry}
use Rattle.sysmem_image.specs.Colours.{no_colours}
use Rattle.sysmem_image.specs.Size.{most_multiple}
use Rattle.sysmem_memory.specs.Heap.{HeapName, HeapFacts, same_heap}
use Rattle.sysmem_memory.specs.Wishes.{MemoryWishes}
use Rattle.negotiation_inputs.specs.Participant.{IsUsage, HasSidesUpTo, AreApart}
use Rattle.negotiation_inputs.specs.Heaps.{IsHeapName, has_domains}
use Rattle.sysmem_memory.specs.declared.bounds.TheConstants.{MOST_HEAPS}

-- 1 to 64 heaps, none of them twice
abbrev pub AreHeaps : List HeapFacts → Type 0
AreHeaps heaps = (1 ≤ length heaps) × (length heaps ≤ MOST_HEAPS)
    × AllPairs (λ a b. same_heap a.heap b.heap ≡ false) heaps

-- some items, none of them twice
abbrev pub AreListed : {X : Type 0} → List X → Type 0
AreListed items = (1 ≤ length items) × AllPairs (λ a b. a ≢ b) items

-- in this field no platform is so
abbrev pub PlatformAmiss : Field → List HeapFacts → List Pair → List ColourSpace → Type 0
PlatformAmiss Heaps heaps pairs colours = AreHeaps heaps → ⊥
PlatformAmiss HeapType heaps pairs colours = All (λ h. IsHeapName h.heap) heaps → ⊥
PlatformAmiss Domains heaps pairs colours = All (λ h. has_domains h.domains ≡ true) heaps → ⊥
PlatformAmiss Pairs heaps pairs colours = AreListed pairs → ⊥
PlatformAmiss PixelFormatModifier heaps pairs colours =
    All (λ pair. IsTiledMisfit pair → ⊥) pairs → ⊥
PlatformAmiss ColorSpaces heaps pairs colours = AreListed colours → ⊥
PlatformAmiss _ _ _ _ = ⊥

-- at most 64 heaps, none of them twice
abbrev pub ArePermitted : List HeapName → Type 0
ArePermitted heaps = (length heaps ≤ MOST_HEAPS) × AllPairs (λ a b. same_heap a b ≡ false) heaps

-- at most 64 entries, no two of one format and modifier
abbrev pub AreEntries : List Entry → Type 0
AreEntries entries = (length entries ≤ MOST_ENTRIES) × AllPairs AreApart entries

-- the entry asks for a tiled misfit
abbrev pub AsksMisfit : Entry → Type 0
AsksMisfit entry = (pair : Pair) × (entry.format ≡ Some pair.format)
    × (entry.modifier ≡ Some pair.modifier) × IsTiledMisfit pair

-- in this field no entry is so
abbrev pub EntryAmiss : Field → Entry → Type 0
EntryAmiss PixelFormatModifier entry = AsksMisfit entry
EntryAmiss ColorSpaces entry = entry.colours ≡ no_colours
EntryAmiss SizeAlignment entry = HasSidesUpTo most_multiple entry.bounds.asked.size_alignment → ⊥
EntryAmiss StartOffsetDivisor entry = most_multiple < entry.bounds.asked.start_offset_divisor
EntryAmiss DisplayRectAlignment entry =
    HasSidesUpTo most_multiple entry.bounds.asked.display_rect_alignment → ⊥
EntryAmiss RequiredMinSize entry = (1 ≤ entry.bounds.asked.required_min_size.width)
    × (1 ≤ entry.bounds.asked.required_min_size.height) → ⊥
EntryAmiss MaxWidthTimesHeight entry = entry.bounds.asked.max_width_times_height ≡ 0
EntryAmiss _ _ = ⊥

-- in this field no participant is so
abbrev pub ParticipantAmiss : Field → Families → MemoryWishes → List Entry → Type 0
ParticipantAmiss Usage usage memory entries = IsUsage usage → ⊥
ParticipantAmiss PermittedHeaps usage memory entries = ArePermitted memory.permitted_heaps → ⊥
ParticipantAmiss HeapType usage memory entries = All IsHeapName memory.permitted_heaps → ⊥
ParticipantAmiss ImageFormatConstraints usage memory entries = AreEntries entries → ⊥
ParticipantAmiss field usage memory entries = Any (EntryAmiss field) entries
