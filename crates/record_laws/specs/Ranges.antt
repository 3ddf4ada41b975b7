-- Participants and platforms whose numbers are of their types: the facts' numbers are bare, and a
-- record states none beyond these.
use Rattle.std.specs.Prelude.{ℕ, ◌≤◌, ◌-◌, ◌^◌, All}
use Rattle.sysmem_counts.specs.declared.constraints.CountConstraints.{CountConstraints}
use Rattle.sysmem_image.specs.Bounds.{IsInRange}
use Rattle.sysmem_counts.specs.Bounds.{most_number}
use Rattle.sysmem_memory.specs.Heap.{HeapName}
use Rattle.sysmem_memory.specs.Wishes.{MemoryWishes}
use Rattle.negotiation_inputs.specs.Participant.{Participant}
use Rattle.negotiation_inputs.specs.Platform.{PlatformFacts}

-- the greatest number of 64 bits
abbrev pub most_large : ℕ
most_large = 2 ^ 64 - 1

-- each count is of 32 bits
pub record AreCounts (c : CountConstraints) : Type 0 where
  pub camping : c.min_buffer_count_for_camping ≤ most_number
  pub dedicated : c.min_buffer_count_for_dedicated_slack ≤ most_number
  pub shared : c.min_buffer_count_for_shared_slack ≤ most_number
  pub minimum : c.min_buffer_count ≤ most_number
  pub maximum : c.max_buffer_count ≤ most_number

-- a heap's id is of 64 bits
abbrev pub IsHeapId : HeapName → Type 0
IsHeapId heap = heap.id ≤ most_large

-- the sizes and the heaps' ids are of 64 bits
pub record AreWishes (w : MemoryWishes) : Type 0 where
  pub min_size : w.min_size_bytes ≤ most_large
  pub max_size : w.max_size_bytes ≤ most_large
  pub ids : All IsHeapId w.permitted_heaps

-- each number of a participant is of its type
pub record IsParticipantInRange (p : Participant) : Type 0 where
  pub counts : AreCounts p.counts
  pub memory : AreWishes p.memory
  pub bounds : All (λ entry. IsInRange entry.bounds.asked) p.entries

-- each heap's id of a platform is of 64 bits
abbrev pub IsPlatformInRange : PlatformFacts → Type 0
IsPlatformInRange p = All (λ h. IsHeapId h.heap) p.heaps
