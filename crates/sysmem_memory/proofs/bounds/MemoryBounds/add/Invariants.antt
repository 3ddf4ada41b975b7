use Rattle.sysmem_memory.proofs.Left.{IsLeftOf, still_left_of}
use Rattle.sysmem_memory.proofs.bounds.MemoryBounds.add.Given as goal

-- each heap so far has left what it had and the participant doesn't refuse
abbrev pub invariant-loop-index : goal.invariant-loop-index
invariant-loop-index l = IsLeftOf (still_left_of l.memory l.usage l.self) l.heaps l.index l.left
