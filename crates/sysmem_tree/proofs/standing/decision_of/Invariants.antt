use Rattle.std.proofs.Common.{◌≡◌, drop}
use Rattle.sysmem_tree.specs.Domain.{decision_of}
use Rattle.sysmem_tree.proofs.standing.decision_of.Given as goal

-- the domain isn't among those so far
abbrev pub invariant-loop-one : goal.invariant-loop-one
invariant-loop-one l = decision_of l.fn.domains l.fn.root ≡ decision_of (drop l.one-index l.fn.domains) l.fn.root
