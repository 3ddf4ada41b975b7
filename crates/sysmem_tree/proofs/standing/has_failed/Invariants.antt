use Rattle.sysmem_tree.proofs.domains.Climbing.{IsClimbed}
use Rattle.sysmem_tree.proofs.standing.has_failed.Given as goal

-- the host's domain is among those left, and it and those above it decide
abbrev pub invariant-loop-index : goal.invariant-loop-index
invariant-loop-index l = IsClimbed (record { nodes = l.fn.nodes; domains = l.fn.domains }) l.fn.root l.index l.host
