-- The calls so far are those, some of them later.
use Rattle.std.specs.Prelude.{List}
use Rattle.script_reading.specs.declared.call.Call.{Call}
use Rattle.other_outcomes.specs.Moved.{IsMoved}
use Rattle.other_outcomes.proofs.ended_later.carried.Given as goal

abbrev pub invariant-loop-one : goal.invariant-loop-one
invariant-loop-one l = (first : List Call) → IsMoved first l.calls → IsMoved first l.made.items
