-- The parts that were written are those of a participant.
use Rattle.std.proofs.Common.{◌≡◌, ◌≤◌, false, length, subst}
use Rattle.std.specs.Prelude.{All, AllPairs}
use Rattle.sysmem_memory.specs.Heap.{same_heap}
use Rattle.negotiation_inputs.specs.Participant.{IsUsage, IsEntry, AreApart}
use Rattle.negotiation_inputs.specs.Heaps.{IsHeapName}
use Rattle.record_writing.proofs.constraints.record_of.Goals as goal

pub returns-clause-is : goal.returns-clause-is
returns-clause-is c =
    record {
      families = subst IsUsage c.usage.ensures.usage c.usage.ensures.families;
      few_heaps = subst (λ memory. length memory.permitted_heaps ≤ 64) c.memory.ensures.memory c.memory.ensures.few;
      distinct_heaps = subst (λ memory. AllPairs (λ a b. same_heap a b ≡ false) memory.permitted_heaps) c.memory.ensures.memory c.memory.ensures.distinct;
      each_heap = subst (λ memory. All IsHeapName memory.permitted_heaps) c.memory.ensures.memory c.memory.ensures.named;
      few_entries = subst (λ entries. length entries ≤ 64) c.entries.ensures.entries c.entries.ensures.few;
      distinct_entries = subst (AllPairs AreApart) c.entries.ensures.entries c.entries.ensures.distinct;
      each_entry = subst (All IsEntry) c.entries.ensures.entries c.entries.ensures.each;
    }
