-- What is left of each heap.
use Rattle.std.specs.Prelude.{ℕ, Bool}
use Rattle.sysmem_memory.specs.declared.bounds.MemoryBounds.{MemoryBounds}
use Rattle.sysmem_memory.specs.declared.domain.CoherencyDomain.{CoherencyDomain}
use Rattle.sysmem_memory.specs.declared.domain.CoherencyDomain.TheVariants.{Cpu, Ram, Inaccessible}
use Rattle.sysmem_memory.specs.HeapSet.{has_heap}

-- the domain of heap k is left
abbrev pub has_left : MemoryBounds → ℕ → CoherencyDomain → Bool
has_left kept k Cpu = has_heap kept.cpu k
has_left kept k Ram = has_heap kept.ram k
has_left kept k Inaccessible = has_heap kept.inaccessible k
