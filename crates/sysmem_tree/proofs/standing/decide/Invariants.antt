use Rattle.std.proofs.Common.{◌≡◌, ◌++◌, drop, take, map}
use Rattle.sysmem_tree.specs.Tree.{decided_domain}
use Rattle.sysmem_tree.proofs.standing.decide.Given as goal

-- the domains so far have the decision, the others are as they were
abbrev pub invariant-loop-domain : goal.invariant-loop-domain
invariant-loop-domain l = l.domains ≡ map (decided_domain l.root l.decision) (take l.domain-index l.initial.domains) ++ drop l.domain-index l.initial.domains
