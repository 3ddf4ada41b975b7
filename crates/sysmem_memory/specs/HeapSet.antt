-- Sets of heaps.
use Rattle.std.specs.Prelude.{◌≡◌, ◌<◌, ℕ, ◌==◌, Bool, true, false}
use Rattle.std.specs.Int.{bit_at}
use Rattle.sysmem_memory.specs.declared.heap_set.HeapSet.{HeapSet}

-- heap k is in the set: bit k of its word is 1
abbrev pub has_heap : HeapSet → ℕ → Bool
has_heap s k = bit_at s.word k == 1

-- the heap is in the set, and none that comes before it is
pub record IsLowestHeap (s : HeapSet) (heap : ℕ) : Type 0 where
  pub has : has_heap s heap ≡ true
  pub before : (k : ℕ) → k < heap → has_heap s k ≡ false
