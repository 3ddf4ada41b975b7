-- The nodes before the number were met.
use Rattle.sysmem_tree.proofs.domains.Sweeping.{AreMet}
use Rattle.sysmem_tree.proofs.sweep.awaiting.Given as goal

abbrev pub invariant-loop-number : goal.invariant-loop-number
invariant-loop-number l = AreMet l.fn.nodes l.marks l.number
