use Rattle.sysmem_memory.proofs.HeapSets.{bits_of_both}
use Rattle.sysmem_memory.proofs.heap_set.HeapSet.both.Goals as goal

pub returns : goal.returns
returns c k = bits_of_both c.args.self.word c.args.other.word k
