use Rattle.sysmem_memory.specs.Domain.{has_domain}
use Rattle.sysmem_memory.proofs.Left.{IsLeftOf}
use Rattle.sysmem_memory.proofs.bounds.MemoryBounds.new.Given as goal

-- each heap so far has all its domains left
abbrev pub invariant-loop-index : goal.invariant-loop-index
invariant-loop-index l = IsLeftOf (λ k h d. has_domain h.domains d) l.heaps l.index l.left
