-- The calls so far are the script's, some of them later.
use Rattle.other_outcomes.specs.Moved.{IsMoved}
use Rattle.other_outcomes.proofs.moved.moved.Given as goal

abbrev pub invariant-loop-one : goal.invariant-loop-one
invariant-loop-one l = IsMoved l.calls l.made.items
