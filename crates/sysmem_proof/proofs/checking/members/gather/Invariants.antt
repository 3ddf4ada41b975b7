-- The nodes that were taken of the walk stand behind those of before.
use Rattle.std.proofs.Common.{ℕ, List}
use Rattle.sysmem_proof.proofs.Gathering.{IsTaken}
use Rattle.sysmem_tree.specs.OpenGroups.{HasLeft}
use Rattle.sysmem_proof.proofs.checking.members.gather.Given as goal

abbrev pub invariant-loop-step : goal.invariant-loop-step
invariant-loop-step l = ((ns : List ℕ) → HasLeft l.layout l.fn.walk ns → IsTaken l.layout l.fn.members l.members l.left l._step ns)
