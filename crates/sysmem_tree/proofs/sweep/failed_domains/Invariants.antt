-- Of the domains before the index it is known whether they have failed.
use Rattle.sysmem_tree.proofs.domains.Sweeping.{IsSwept}
use Rattle.sysmem_tree.proofs.sweep.failed_domains.Given as goal

abbrev pub invariant-loop-index : goal.invariant-loop-index
invariant-loop-index l = IsSwept (record { nodes = l.fn.nodes; domains = l.fn.domains }) l.marks l.failed l.decisions l.index
