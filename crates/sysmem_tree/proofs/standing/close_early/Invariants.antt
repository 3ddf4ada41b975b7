use Rattle.std.proofs.Common.{◌≡◌, ◌++◌, drop, take, map}
use Rattle.sysmem_tree.specs.Tree.{closed_early}
use Rattle.sysmem_tree.proofs.standing.close_early.Given as goal

-- the domains so far are marked, the others are as they were
abbrev pub invariant-loop-domain : goal.invariant-loop-domain
invariant-loop-domain l = l.domains ≡ map (closed_early l.root) (take l.domain-index l.initial.domains) ++ drop l.domain-index l.initial.domains
