-- Which participants, and which platforms, `==` calls equal.
use Rattle.std.specs.Prelude.{◌==◌, ◌&&◌, Bool}
use Rattle.std.specs.Cmp.Lexicographic.{pointwise}
use mathlib.Core.Bool.{beq}
use Rattle.sysmem_counts.specs.contracts.constraints.CountConstraintsPartialEq.TheImpl as counts
use Rattle.sysmem_counts.specs.contracts.usage.UsagePartialEq.TheImpl as usage
use Rattle.sysmem_formats.specs.contracts.colour_space.ColourSpacePartialEq.TheImpl as colour
use Rattle.sysmem_formats.specs.contracts.offer.PairPartialEq.TheImpl as pair
use Rattle.sysmem_image.specs.contracts.entry.EntryPartialEq.TheImpl as entry
use Rattle.sysmem_memory.specs.contracts.domain.CoherencyDomainsPartialEq.TheImpl as domains
use Rattle.sysmem_memory.specs.Heap.{HeapFacts, same_heap}
use Rattle.sysmem_memory.specs.Wishes.{MemoryWishes}
use Rattle.negotiation_inputs.specs.Participant.{Participant}
use Rattle.negotiation_inputs.specs.Platform.{PlatformFacts}

-- the two let the CPU reach memory in the same ways
abbrev pub same_access : MemoryWishes → MemoryWishes → Bool
same_access a b =
    beq a.cpu_domain_supported b.cpu_domain_supported
    && beq a.ram_domain_supported b.ram_domain_supported
    && beq a.inaccessible_domain_supported b.inaccessible_domain_supported

-- the two ask for memory of the same kind
abbrev pub same_kind : MemoryWishes → MemoryWishes → Bool
same_kind a b =
    beq a.physically_contiguous_required b.physically_contiguous_required
    && beq a.secure_required b.secure_required

-- the two memory constraints are equal, field by field
abbrev pub same_wishes : MemoryWishes → MemoryWishes → Bool
same_wishes a b =
    a.min_size_bytes == b.min_size_bytes && a.max_size_bytes == b.max_size_bytes && same_kind a b
    && same_access a b && pointwise same_heap a.permitted_heaps b.permitted_heaps

-- the two participants are equal, field by field, their entries one by one
abbrev pub same_participant : Participant → Participant → Bool
same_participant a b =
    counts.ghosts.eq a.counts b.counts && usage.ghosts.eq a.usage b.usage
    && same_wishes a.memory b.memory && pointwise entry.ghosts.eq a.entries b.entries

-- a platform says the same of the two heaps, their names too
abbrev pub same_heap_facts : HeapFacts → HeapFacts → Bool
same_heap_facts a b =
    same_heap a.heap b.heap && beq a.contiguous b.contiguous && beq a.secure b.secure
    && domains.ghosts.eq a.domains b.domains

-- the two platforms have equal lists: heaps, pairs and colour spaces
abbrev pub same_platform : PlatformFacts → PlatformFacts → Bool
same_platform a b =
    pointwise same_heap_facts a.heaps b.heaps && pointwise pair.ghosts.eq a.pairs b.pairs
    && pointwise colour.ghosts.eq a.colours b.colours
