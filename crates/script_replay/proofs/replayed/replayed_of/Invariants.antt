use Rattle.std.specs.Prelude.{◌≡◌, map}
use Rattle.script_replay.specs.Events.{events_of}
use Rattle.script_replay.specs.Runner.{state_of}
use Rattle.script_reading.specs.Seen.{call_seen}
use Rattle.script_replay.proofs.Reaching.{Reaches}
use Rattle.script_replay.proofs.replayed.replayed_of.Given as goal

abbrev pub invariant-loop-index : goal.invariant-loop-index
invariant-loop-index g l =
    Reaches l.fn.platform (map call_seen l.calls) l.index (state_of l.runner) (events_of l.events) (g.D.Decider.gave l.fn.decider l.fn.platform) (g.D.Decider.gave l.decider l.fn.platform)
    × (g.D.Decider.given l.decider ≡ g.D.Decider.given l.fn.decider)
