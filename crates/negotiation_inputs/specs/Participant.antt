-- What a participant asks of the buffers.
use Rattle.negotiation_inputs.specs.declared.constraints.TheConstants.{MOST_ENTRIES}
use Rattle.std.specs.Prelude.{◌≡◌, ◌≢◌, ℕ, ◌^◌, ◌<◌, ◌≤◌, List, length, false, Some, All, AllPairs}
use Rattle.std.specs.Int.RustNames.{bit_and}
use Rattle.sysmem_counts.specs.declared.constraints.CountConstraints.{CountConstraints}
use Rattle.sysmem_counts.specs.declared.usage.Usage.{Usage}
use Rattle.sysmem_counts.specs.Usage.{usage_bits}
use Rattle.sysmem_formats.specs.declared.offer.Pair.{Pair}
use Rattle.sysmem_formats.specs.Layout.{IsTiledMisfit}
use Rattle.sysmem_image.specs.Size.{most_multiple}
use Rattle.sysmem_image.specs.declared.entry.Entry.{Entry}
use Rattle.sysmem_image.specs.declared.size.Size.{Size}
use Rattle.sysmem_image.specs.Colours.{no_colours}
use Rattle.sysmem_memory.specs.Heap.{same_heap}
use Rattle.sysmem_memory.specs.Wishes.{MemoryWishes}
use Rattle.negotiation_inputs.specs.Heaps.{IsHeapName}
use Rattle.sysmem_memory.specs.declared.bounds.TheConstants.{MOST_HEAPS}

-- the constraints of one node; without entries it takes every offer
pub record Participant : Type 0 where
  pub usage : Usage
  pub counts : CountConstraints
  pub memory : MemoryWishes
  pub entries : List Entry

-- some of the five families, and `none`, whose bit is 1, no other beside it
pub record IsUsage (usage : Usage) : Type 0 where
  pub families : usage_bits usage < 2 ^ 5
  pub some : usage_bits usage ≢ 0
  pub none_alone : bit_and (usage_bits usage) 1 ≡ 1 → usage_bits usage ≡ 1

-- neither side is above n
abbrev pub HasSidesUpTo : ℕ → Size → Type 0
HasSidesUpTo n size = (size.width ≤ n) × (size.height ≤ n)

-- what an entry may ask: no tiled modifier with a format that isn't of 4 bytes, some colour spaces,
-- alignments and divisors up to 65,536, a required_min_size and a max_width_times_height from 1.
-- What else is 1 or more its bounds say themselves, and how great a row divisor is.
pub record IsEntry (entry : Entry) : Type 0 where
  pub fitting : (pair : Pair) → entry.format ≡ Some pair.format
      → entry.modifier ≡ Some pair.modifier → IsTiledMisfit pair → ⊥
  pub some_colours : entry.colours ≢ no_colours
  pub size_alignment : HasSidesUpTo most_multiple entry.bounds.asked.size_alignment
  pub start_offset_divisor : entry.bounds.asked.start_offset_divisor ≤ most_multiple
  pub display_rect_alignment : HasSidesUpTo most_multiple entry.bounds.asked.display_rect_alignment
  pub required_min_width : 1 ≤ entry.bounds.asked.required_min_size.width
  pub required_min_height : 1 ≤ entry.bounds.asked.required_min_size.height
  pub max_width_times_height : 1 ≤ entry.bounds.asked.max_width_times_height

-- the two are of different formats or modifiers, DO_NOT_CARE being one of them
abbrev pub AreApart : Entry → Entry → Type 0
AreApart a b = a.format ≡ b.format → a.modifier ≢ b.modifier

-- what a participant may ask: a usage, at most 64 permitted heaps and at most 64 entries, none of
-- them twice. Counts and sizes may be any of their types.
pub record IsParticipant (usage : Usage) (memory : MemoryWishes)
    (entries : List Entry) : Type 0 where
  pub families : IsUsage usage
  pub few_heaps : length memory.permitted_heaps ≤ MOST_HEAPS
  pub distinct_heaps : AllPairs (λ a b. same_heap a b ≡ false) memory.permitted_heaps
  pub each_heap : All IsHeapName memory.permitted_heaps
  pub few_entries : length entries ≤ MOST_ENTRIES
  pub distinct_entries : AllPairs AreApart entries
  pub each_entry : All IsEntry entries
