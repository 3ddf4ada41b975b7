use Rattle.std.specs.Prelude.{map}
use Rattle.serde_json.specs.View.{view}
use Rattle.script_reading.specs.Seen.{call_seen}
use Rattle.constraint_changes.specs.Edited.{IsTried}
use Rattle.constraint_changes.proofs.trials.trying.Trial.least_run.Given as goal

abbrev pub invariant-loop-halving : goal.invariant-loop-halving
invariant-loop-halving l =
    IsTried l.self.scenario.now.platform.now (map call_seen l.self.scenario.now.calls.now) l.self.place (view l.best.value) l.self.path.now l.best.outcome
