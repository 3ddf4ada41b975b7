-- What is promised last, or else what was before.
use Rattle.constraint_changes.proofs.trials.trying.Trial.least_run.Goals as goal
use Rattle.constraint_changes.proofs.trials.trying.Trial.least_run.Goals.{in-Some-told, in_default-told}

pub loop-halving-preserved : goal.loop-halving-preserved
loop-halving-preserved c = elim c.match-told.branch [
  | in-Some-told w ↦ rw w.best-is (rw w.in-Some-told.is at c.in_ok-told.ensures)
  | in_default-told w ↦ rw w.best-is c.loop-halving.invariant
]
