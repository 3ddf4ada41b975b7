use Rattle.sysmem_memory.proofs.LawProofs.{same_heap_is_equal}
use Rattle.sysmem_memory.proofs.laws.equal_heaps_are_one.Goals as goal

pub returns : goal.returns
returns c = same_heap_is_equal
