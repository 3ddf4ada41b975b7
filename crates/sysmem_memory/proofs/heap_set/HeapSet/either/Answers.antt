use Rattle.sysmem_memory.proofs.HeapSets.{bits_of_either}
use Rattle.sysmem_memory.proofs.heap_set.HeapSet.either.Goals as goal

pub returns : goal.returns
returns c k = bits_of_either c.args.self.word c.args.other.word k
