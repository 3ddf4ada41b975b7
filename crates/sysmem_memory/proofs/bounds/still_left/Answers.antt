use Rattle.sysmem_memory.proofs.Left.{nothing_left, domain_still_left}
use Rattle.sysmem_memory.proofs.bounds.still_left.Goals as goal

pub returns-then-is_some : goal.returns-then-is_some
returns-then-is_some c =
    nothing_left c.args.left c.args.memory.now c.args.usage c.args.heap.now _ c.heap_refuses.ensures c.if-is_some.ensures

pub returns : goal.returns
returns c d =
    domain_still_left c.args.memory.now c.args.usage c.args.heap.now _ c.heap_refuses.ensures c.if-is_some.ensures c.args.left _ c.domain_left-cpu.ensures c.domain_left-ram.ensures c.domain_left-inaccessible.ensures d
