-- The calls so far are those, and others that end something after them.
use Rattle.std.specs.Prelude.{List}
use Rattle.script_reading.specs.declared.call.Call.{Call}
use Rattle.other_outcomes.specs.Ended.{IsEnded}
use Rattle.other_outcomes.proofs.pending.complete.Given as goal

abbrev pub invariant-loop-one : goal.invariant-loop-one
invariant-loop-one l = (first : List Call) → IsEnded first l.fn.calls.items → IsEnded first l.calls.items
