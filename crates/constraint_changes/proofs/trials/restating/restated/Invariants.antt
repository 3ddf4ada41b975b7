use Rattle.std.specs.Prelude.{map}
use Rattle.script_reading.specs.Seen.{call_seen}
use Rattle.constraint_changes.specs.Edited.{IsRestated}
use Rattle.constraint_changes.proofs.trials.restating.restated.Given as goal

abbrev pub invariant-loop-one : goal.invariant-loop-one
invariant-loop-one l = IsRestated (map call_seen l.calls) (map call_seen l.made.items)
