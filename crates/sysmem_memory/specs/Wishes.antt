-- A participant's memory constraints.
use Rattle.std.specs.Prelude.{ℕ, Bool, true, false, List, [], ◌-◌, ◌^◌}
use Rattle.sysmem_memory.specs.Heap.{HeapName}

-- a participant's memory constraints
pub record MemoryWishes : Type 0 where
  pub min_size_bytes : ℕ
  pub max_size_bytes : ℕ
  pub physically_contiguous_required : Bool
  pub secure_required : Bool
  pub cpu_domain_supported : Bool
  pub ram_domain_supported : Bool
  pub inaccessible_domain_supported : Bool
  pub permitted_heaps : List HeapName

-- memory constraints that permit these heaps and ask for nothing else
abbrev pub permitting : List HeapName → MemoryWishes
permitting heaps = record {
  min_size_bytes = 0;
  max_size_bytes = 2 ^ 64 - 1;
  physically_contiguous_required = false;
  secure_required = false;
  cpu_domain_supported = true;
  ram_domain_supported = false;
  inaccessible_domain_supported = false;
  permitted_heaps = heaps;
}

-- the memory constraints of a participant that names none
abbrev pub no_wishes : MemoryWishes
no_wishes = permitting []
