-- The fields that can refuse a place, in their order.
use Rattle.std.specs.Prelude.{◌≡◌, ◌==◌, Bool, true, false, not, ◌&&◌, ◌||◌, List, [], ◌∷◌, ◌++◌}
use Rattle.std.specs.Prelude.{length, Option, None, Any}
use Rattle.std.specs.List.{list_any, find}
use Rattle.sysmem_counts.specs.Usage.{uses_cpu}
use Rattle.sysmem_counts.specs.declared.usage.Usage as usage
use Rattle.sysmem_counts.specs.declared.field.Field.{Field}
use Rattle.sysmem_counts.specs.declared.field.Field.TheVariants.{PermittedHeaps}
use Rattle.sysmem_counts.specs.declared.field.Field.TheVariants.{PhysicallyContiguousRequired}
use Rattle.sysmem_counts.specs.declared.field.Field.TheVariants.{SecureRequired, CpuDomainSupported}
use Rattle.sysmem_counts.specs.declared.field.Field.TheVariants.{RamDomainSupported}
use Rattle.sysmem_counts.specs.declared.field.Field.TheVariants.{InaccessibleDomainSupported, Usage}
use Rattle.sysmem_memory.specs.declared.domain.CoherencyDomain.{CoherencyDomain}
use Rattle.sysmem_memory.specs.declared.domain.CoherencyDomain.TheVariants.{Cpu, Ram, Inaccessible}
use Rattle.sysmem_memory.specs.Heap.{HeapName, HeapFacts, same_heap}
use Rattle.sysmem_memory.specs.Wishes.{MemoryWishes}

-- the heap is among those permitted; an empty list permits every heap
abbrev pub permits : List HeapName → HeapName → Bool
permits permitted heap = length permitted == 0 || list_any (λ h. same_heap h heap) permitted

-- the coherency domain is inaccessible
abbrev pub is_inaccessible : CoherencyDomain → Bool
is_inaccessible Inaccessible = true
is_inaccessible _ = false

-- the field refuses the coherency domain of the heap, to a
-- participant of these wishes and this usage
abbrev pub refuses_by : Field → MemoryWishes → usage.Usage → HeapFacts → CoherencyDomain → Bool
refuses_by PermittedHeaps m u h d = not (permits m.permitted_heaps h.heap)
refuses_by PhysicallyContiguousRequired m u h d =
    m.physically_contiguous_required && not h.contiguous
refuses_by SecureRequired m u h d = m.secure_required && not h.secure
refuses_by CpuDomainSupported m u h Cpu = not m.cpu_domain_supported
refuses_by RamDomainSupported m u h Ram = not m.ram_domain_supported
refuses_by InaccessibleDomainSupported m u h Inaccessible = not m.inaccessible_domain_supported
refuses_by Usage m u h d = uses_cpu u && (is_inaccessible d || h.secure)
refuses_by _ m u h d = false

-- the fields that can refuse a heap, whatever the coherency domain, in their order
abbrev pub heap_fields : List Field
heap_fields = PermittedHeaps ∷ PhysicallyContiguousRequired ∷ SecureRequired ∷ []

-- the fields that can refuse a coherency domain of a heap, in their order
abbrev pub domain_fields : List Field
domain_fields = CpuDomainSupported ∷ RamDomainSupported ∷ InaccessibleDomainSupported ∷ Usage ∷ []

-- the fields that can refuse a place, in their order
abbrev pub place_fields : List Field
place_fields = heap_fields ++ domain_fields

-- the first field that refuses the coherency domain of the heap, if there is one
abbrev pub first_refusing : MemoryWishes → usage.Usage → HeapFacts → CoherencyDomain → Option Field
first_refusing m u h d = find (λ f. refuses_by f m u h d) place_fields

-- no field refuses the coherency domain of the heap
abbrev pub AllowsPlace : MemoryWishes → usage.Usage → HeapFacts → CoherencyDomain → Type 0
AllowsPlace m u h d = first_refusing m u h d ≡ None

-- what one participant says of places
pub record PlaceDemand : Type 0 where
  pub memory : MemoryWishes
  pub usage : usage.Usage

-- the field refuses the coherency domain of the heap to some participant of the list
abbrev pub IsPlaceLine : Field → HeapFacts → CoherencyDomain → List PlaceDemand → Type 0
IsPlaceLine f h d ps = Any (λ p. refuses_by f p.memory p.usage h d ≡ true) ps
