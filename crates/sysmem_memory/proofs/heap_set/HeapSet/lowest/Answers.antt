use Rattle.std.proofs.Common.{arith}
use Rattle.sysmem_memory.proofs.HeapSets.{lowest_bit}
use Rattle.sysmem_memory.proofs.heap_set.HeapSet.lowest.Goals as goal

pub returns-clause-lowest : goal.returns-clause-lowest
returns-clause-lowest c = lowest_bit c.args.self (omega (arith, c.if-self-eq0.false)) (omega arith)
