-- The calls so far are the script's, some of them later.
use Rattle.other_outcomes.specs.Moved.{IsMoved}
use Rattle.other_outcomes.proofs.ended_later.put_before.Given as goal

abbrev pub invariant-loop-end : goal.invariant-loop-end
invariant-loop-end l = IsMoved l.calls l.made.items
