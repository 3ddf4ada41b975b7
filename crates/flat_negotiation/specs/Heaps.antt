-- The heaps of a platform, named by their indices.
use Rattle.std.specs.Prelude.{ℕ, zero, suc, List, [], ◌∷◌, ◌++◌, codes, if◌then◌else◌}
use Rattle.sysmem_memory.specs.Heap.{HeapName, HeapFacts}
use Rattle.flat_negotiation.specs.declared.parts.flat.FlatHeap.{FlatHeap}
use Rattle.flat_negotiation.specs.Stated.{has_bit}

-- the name of the heap of this index
abbrev pub heap_name : ℕ → HeapName
heap_name index = record { heap_type = codes "heap"; id = index }

-- the heap of this index
abbrev pub heap_said : ℕ → FlatHeap → HeapFacts
heap_said index h = record {
  heap = heap_name index;
  contiguous = h.contiguous;
  secure = h.secure;
  domains = record { cpu = h.cpu; ram = h.ram; inaccessible = h.inaccessible };
}

-- the heaps from an index on
abbrev pub heaps_said : ℕ → List FlatHeap → List HeapFacts
heaps_said index [] = []
heaps_said index (h ∷ hs) = heap_said index h ∷ heaps_said (suc index) hs

-- the names of those of the first heaps, so many, whose bits are set
abbrev pub permitted_said : ℕ → ℕ → List HeapName
permitted_said zero bits = []
permitted_said (suc index) bits =
    permitted_said index bits ++ (if has_bit bits index then heap_name index ∷ [] else [])
