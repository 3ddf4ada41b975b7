use Rattle.std.proofs.Common.{IfSome}
use Rattle.script_replay.specs.Events.{events_of, fate_seen}
use Rattle.script_story.specs.Told.{BecomesOn}
use Rattle.script_story.proofs.scenario.last_on.Given as goal

abbrev pub invariant-loop-event : goal.invariant-loop-event
invariant-loop-event l = IfSome l.last (λ fate. BecomesOn (events_of l.events) l.path (fate_seen fate.now))
