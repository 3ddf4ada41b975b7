-- Heaps, by their names, and what a platform says of each.
use Rattle.std.specs.Prelude.{ℕ, Bool, List, ◌==◌, ◌&&◌}
use Rattle.std.specs.Cmp.Lexicographic.{pointwise}
use Rattle.sysmem_memory.specs.declared.domain.CoherencyDomains.{CoherencyDomains}

-- a heap, by the bytes of its type and its id
pub record HeapName : Type 0 where
  pub heap_type : List ℕ
  pub id : ℕ

-- a heap of a platform: its name, what its memory is like and the coherency domains that it has
pub record HeapFacts : Type 0 where
  pub heap : HeapName
  pub contiguous : Bool
  pub secure : Bool
  pub domains : CoherencyDomains

-- the two names are of one heap
abbrev pub same_heap : HeapName → HeapName → Bool
same_heap a b = pointwise ◌==◌ a.heap_type b.heap_type && a.id == b.id
