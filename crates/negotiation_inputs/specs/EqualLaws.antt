-- What `==` calls equal is so both ways round, and through a third.
use Rattle.std.specs.Prelude.{nat_eq, ◌&&◌}
use Rattle.std.specs.Cmp.{IsPartialEquivalence, and_per, on_per}
use Rattle.std.specs.Cmp.{partial_equiv_from_equiv, nat_eq_equiv, bool_eq_equiv}
use Rattle.std.specs.Cmp.Lexicographic.{lists_per}
use mathlib.Core.Bool.{beq}
use Rattle.sysmem_counts.specs.contracts.constraints.CountConstraintsPartialEq.TheImpl.Laws as counts
use Rattle.sysmem_counts.specs.contracts.usage.UsagePartialEq.TheImpl.Laws as usage
use Rattle.sysmem_formats.specs.contracts.colour_space.ColourSpacePartialEq.TheImpl.Laws as colour
use Rattle.sysmem_formats.specs.contracts.offer.PairPartialEq.TheImpl.Laws as pair
use Rattle.sysmem_image.specs.contracts.entry.EntryPartialEq.TheImpl.Laws as entry
use Rattle.sysmem_memory.specs.contracts.domain.CoherencyDomainsPartialEq.TheImpl.Laws as domains
use Rattle.sysmem_memory.specs.contracts.heap.HeapPartialEq.TheImpl.Laws as heap
use Rattle.sysmem_memory.specs.Heap.{HeapFacts}
use Rattle.sysmem_memory.specs.Wishes.{MemoryWishes}
use Rattle.negotiation_inputs.specs.Equal.{same_access, same_kind, same_wishes}
use Rattle.negotiation_inputs.specs.Equal.{same_participant, same_heap_facts, same_platform}
use Rattle.negotiation_inputs.specs.Participant.{Participant}
use Rattle.negotiation_inputs.specs.Platform.{PlatformFacts}

flags : IsPartialEquivalence beq
flags = partial_equiv_from_equiv bool_eq_equiv

numbers : IsPartialEquivalence nat_eq
numbers = partial_equiv_from_equiv nat_eq_equiv

access_laws : IsPartialEquivalence same_access
access_laws =
    and_per
    (and_per (on_per (λ (m : MemoryWishes). m.cpu_domain_supported) flags)
    (on_per (λ (m : MemoryWishes). m.ram_domain_supported) flags))
    (on_per (λ (m : MemoryWishes). m.inaccessible_domain_supported) flags)

kind_laws : IsPartialEquivalence same_kind
kind_laws =
    and_per (on_per (λ (m : MemoryWishes). m.physically_contiguous_required) flags)
    (on_per (λ (m : MemoryWishes). m.secure_required) flags)

size_laws : IsPartialEquivalence (λ (a b : MemoryWishes). nat_eq a.min_size_bytes b.min_size_bytes
    && nat_eq a.max_size_bytes b.max_size_bytes)
size_laws =
    and_per (on_per (λ (m : MemoryWishes). m.min_size_bytes) numbers)
    (on_per (λ (m : MemoryWishes). m.max_size_bytes) numbers)

wishes_laws : IsPartialEquivalence same_wishes
wishes_laws =
    and_per (and_per (and_per size_laws kind_laws) access_laws)
    (on_per (λ (m : MemoryWishes). m.permitted_heaps) (lists_per heap.lawful.laws))

pub participant_laws : IsPartialEquivalence same_participant
participant_laws =
    and_per
    (and_per
    (and_per (on_per (λ (p : Participant). p.counts) counts.lawful.laws)
    (on_per (λ (p : Participant). p.usage) usage.lawful.laws))
    (on_per (λ (p : Participant). p.memory) wishes_laws))
    (on_per (λ (p : Participant). p.entries) (lists_per entry.lawful.laws))

facts_laws : IsPartialEquivalence same_heap_facts
facts_laws =
    and_per
    (and_per
    (and_per (on_per (λ (h : HeapFacts). h.heap) heap.lawful.laws)
    (on_per (λ (h : HeapFacts). h.contiguous) flags))
    (on_per (λ (h : HeapFacts). h.secure) flags))
    (on_per (λ (h : HeapFacts). h.domains) domains.lawful.laws)

pub platform_laws : IsPartialEquivalence same_platform
platform_laws =
    and_per
    (and_per (on_per (λ (p : PlatformFacts). p.heaps) (lists_per facts_laws))
    (on_per (λ (p : PlatformFacts). p.pairs) (lists_per pair.lawful.laws)))
    (on_per (λ (p : PlatformFacts). p.colours) (lists_per colour.lawful.laws))
