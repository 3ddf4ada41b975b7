-- Of the domains before the index it is known whether they are ready.
use Rattle.sysmem_tree.proofs.domains.Sweeping.{AreReadyBefore}
use Rattle.sysmem_tree.proofs.sweep.ready_domains.Given as goal

abbrev pub invariant-loop-index : goal.invariant-loop-index
invariant-loop-index l = AreReadyBefore (record { nodes = l.fn.nodes; domains = l.fn.domains }) l.marks l.index
