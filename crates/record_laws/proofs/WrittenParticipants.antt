-- What is written of a participant is read as the participant.
use Rattle.std.proofs.Common.{◌≡◌, ◌≤◌, true, false, [], length, None, Ok, refl, ap, ◌∙◌}
use Rattle.std.specs.Prelude.{All, AllPairs, map}
use Rattle.serde_json.specs.Data.{no_members}
use Rattle.serde_json.specs.View.{items_of}
use Rattle.sysmem_counts.specs.declared.field.Field.TheVariants as field
use Rattle.sysmem_counts.specs.declared.usage.Usage.{Usage}
use Rattle.sysmem_counts.specs.Bounds.{most_number}
use Rattle.sysmem_memory.specs.Heap.{same_heap}
use Rattle.sysmem_memory.specs.Wishes.{MemoryWishes, no_wishes}
use Rattle.record_reading.specs.declared.fault.Code.TheVariants as code
use Rattle.record_reading.specs.declared.fault.FaultPlace.TheVariants.{Whole, At}
use Rattle.negotiation_inputs.specs.Participant.{Participant, IsUsage}
use Rattle.record_reading.specs.Reading.Constraints.{usage_of, counts_of, memory_fields, memory_of, constraints_fields}
use Rattle.record_reading.specs.Reading.Entries.{entries_of}
use Rattle.record_reading.specs.Reading.Fields.{◌>>=◌, is_key_of, object_of, optional, stated, number_or, flag_or}
use Rattle.negotiation_inputs.specs.Heaps.{IsHeapName}
use Rattle.record_reading.specs.Reading.Heaps.{permitted_of}
use Rattle.record_laws.specs.Laws.{WrittenParticipantIsRead}
use Rattle.record_laws.specs.Ranges.{most_large, AreCounts, AreWishes}
use Rattle.record_laws.specs.Sparse.{with_fields, fields_said, list_said, object_said, names_said, families_in, permitted_written, memory_said, entry_written, participant_said, participant_written}
use Rattle.record_laws.proofs.Each.{next}
use Rattle.record_laws.proofs.Participants.{entries_by}
use Rattle.record_laws.proofs.Said.{object_taken, optional_reads, required_reads, number_or_reads, true_or_reads, false_or_reads, list_reads, object_reads, names_are}
use Rattle.record_laws.proofs.Usages.{usage_stated}
use Rattle.record_laws.proofs.WrittenEntries.{entry_read}
use Rattle.record_laws.proofs.WrittenHeaps.{permitted_back}

usage_read : (u : Usage) → IsUsage u → usage_of (names_said (families_in u)) ≡ Ok u
usage_read u is = ap usage_of (names_are (families_in u)) ∙ usage_stated u is

memory_read : (w : MemoryWishes) → AreWishes w → length w.permitted_heaps ≤ 64 → AllPairs (λ a b. same_heap a b ≡ false) w.permitted_heaps → All IsHeapName w.permitted_heaps
    → memory_of None (fields_said (memory_said w)) ≡ Ok w
unfolding is_key_of
memory_read w small few distinct each =
    let fs = memory_said w in
    let d = fields_said fs in
    let heaps = items_of (map permitted_written w.permitted_heaps) in
    next (object_of (At field.BufferMemoryConstraints) memory_fields d) d _ (Ok w) (object_taken (At field.BufferMemoryConstraints) memory_fields fs refl)
    (next (number_or field.MinSizeBytes 0 most_large d) w.min_size_bytes _ (Ok w) (number_or_reads field.MinSizeBytes 0 most_large w.min_size_bytes fs refl small.min_size)
    (next (number_or field.MaxSizeBytes most_large most_large d) w.max_size_bytes _ (Ok w) (number_or_reads field.MaxSizeBytes most_large most_large w.max_size_bytes fs refl small.max_size)
    (next (flag_or field.PhysicallyContiguousRequired false d) w.physically_contiguous_required _ (Ok w) (true_or_reads field.PhysicallyContiguousRequired w.physically_contiguous_required fs refl)
    (next (flag_or field.SecureRequired false d) w.secure_required _ (Ok w) (true_or_reads field.SecureRequired w.secure_required fs refl)
    (next (flag_or field.CpuDomainSupported true d) w.cpu_domain_supported _ (Ok w) (false_or_reads field.CpuDomainSupported w.cpu_domain_supported fs refl)
    (next (flag_or field.RamDomainSupported false d) w.ram_domain_supported _ (Ok w) (true_or_reads field.RamDomainSupported w.ram_domain_supported fs refl)
    (next (flag_or field.InaccessibleDomainSupported false d) w.inaccessible_domain_supported _ (Ok w) (true_or_reads field.InaccessibleDomainSupported w.inaccessible_domain_supported fs refl)
    (next (optional field.PermittedHeaps [] (permitted_of None) d) w.permitted_heaps _ (Ok w)
    (optional_reads field.PermittedHeaps [] w.permitted_heaps (permitted_of None) fs (list_said heaps) refl
    (list_reads [] w.permitted_heaps (permitted_of None) heaps (permitted_back w.permitted_heaps few distinct each small.ids) refl)) refl))))))))

counts_read : (p : Participant) → AreCounts p.counts → counts_of (participant_written p) ≡ Ok p.counts
counts_read p small =
    let c = p.counts in
    let fs = participant_said p in
    let d = participant_written p in
    next (number_or field.MinBufferCountForCamping 0 most_number d) c.min_buffer_count_for_camping _ (Ok c) (number_or_reads field.MinBufferCountForCamping 0 most_number c.min_buffer_count_for_camping fs refl small.camping)
    (next (number_or field.MinBufferCountForDedicatedSlack 0 most_number d) c.min_buffer_count_for_dedicated_slack _ (Ok c) (number_or_reads field.MinBufferCountForDedicatedSlack 0 most_number c.min_buffer_count_for_dedicated_slack fs refl small.dedicated)
    (next (number_or field.MinBufferCountForSharedSlack 0 most_number d) c.min_buffer_count_for_shared_slack _ (Ok c) (number_or_reads field.MinBufferCountForSharedSlack 0 most_number c.min_buffer_count_for_shared_slack fs refl small.shared)
    (next (number_or field.MinBufferCount 0 most_number d) c.min_buffer_count _ (Ok c) (number_or_reads field.MinBufferCount 0 most_number c.min_buffer_count fs refl small.minimum)
    (next (number_or field.MaxBufferCount most_number most_number d) c.max_buffer_count _ (Ok c) (number_or_reads field.MaxBufferCount most_number most_number c.max_buffer_count fs refl small.maximum) refl))))

pub participant_read : WrittenParticipantIsRead
unfolding is_key_of
participant_read p is small =
    let fs = participant_said p in
    let d = participant_written p in
    let memory = with_fields no_members (memory_said p.memory) in
    let entries = items_of (map entry_written p.entries) in
    next (object_of Whole constraints_fields d) d _ (Ok p) (object_taken Whole constraints_fields fs refl)
    (next (stated code.BadUsage field.Usage d >>= usage_of) p.usage _ (Ok p)
    (required_reads code.BadUsage field.Usage p.usage usage_of fs (names_said (families_in p.usage)) refl (usage_read p.usage is.families))
    (next (counts_of d) p.counts _ (Ok p) (counts_read p small.counts)
    (next (optional field.BufferMemoryConstraints no_wishes (memory_of None) d) p.memory _ (Ok p)
    (optional_reads field.BufferMemoryConstraints no_wishes p.memory (memory_of None) fs (object_said memory) refl
    (object_reads no_wishes p.memory (memory_of None) memory (memory_read p.memory small.memory is.few_heaps is.distinct_heaps is.each_heap) refl))
    (next (optional field.ImageFormatConstraints [] (entries_of None) d) p.entries _ (Ok p)
    (optional_reads field.ImageFormatConstraints [] p.entries (entries_of None) fs (list_said entries) refl
    (list_reads [] p.entries (entries_of None) entries (entries_by entry_written p.entries is.few_entries is.distinct_entries is.each_entry small.bounds entry_read) refl)) refl))))
