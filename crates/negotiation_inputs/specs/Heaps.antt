-- What a heap's name says, and heaps among others.
use Rattle.negotiation_inputs.specs.declared.heaps.TheConstants.{LONGEST_HEAP_TYPE}
use Rattle.std.specs.Prelude.{◌≡◌, ℕ, ◌&&◌, ◌||◌, List, length, Bool, true, nat_eq, nat_le}
use Rattle.std.specs.List.{list_all, list_any}
use Rattle.sysmem_memory.specs.declared.domain.CoherencyDomains.{CoherencyDomains}
use Rattle.sysmem_memory.specs.Heap.{HeapName, HeapFacts, same_heap}

-- an ASCII letter or digit, `.`, `_` or `-`
abbrev pub is_heap_byte : ℕ → Bool
is_heap_byte b = (nat_le 97 b && nat_le b 122) || (nat_le 65 b && nat_le b 90)
    || (nat_le 48 b && nat_le b 57) || nat_eq b 46 || nat_eq b 95 || nat_eq b 45

-- 1 to 128 of them
abbrev pub is_heap_type : List ℕ → Bool
is_heap_type text = nat_le 1 (length text) && nat_le (length text) LONGEST_HEAP_TYPE
    && list_all is_heap_byte text

-- a heap's name, whose type is 1 to 128 ASCII letters, digits, `.`, `_` or `-`
abbrev pub IsHeapName : HeapName → Type 0
IsHeapName heap = is_heap_type heap.heap_type ≡ true

-- some domain is among them
abbrev pub has_domains : CoherencyDomains → Bool
has_domains s = s.cpu || s.ram || s.inaccessible

-- the heap is among these
abbrev pub has_heap : List HeapFacts → HeapFacts → Bool
has_heap heaps new = list_any (λ h. same_heap h.heap new.heap) heaps

-- the heap is among these
abbrev pub has_permitted : List HeapName → HeapName → Bool
has_permitted heaps new = list_any (λ h. same_heap h new) heaps
