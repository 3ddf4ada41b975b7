-- What was decided so far, and the history has room for 639 entries.
use Rattle.std.specs.Prelude.{◌≡◌, ℕ, ◌-◌, [], length}
use Rattle.script_replay.specs.Events.{events_of}
use Rattle.script_replay.specs.Steps.{GoesIn}
use Rattle.script_replay.specs.Runner.{state_of}
use Rattle.script_replay.proofs.runner.Runner.decide_waiting.Given as goal

abbrev pub decreases-loop-domain : goal.decreases-loop-domain
decreases-loop-domain g l = 639 - length l.self.book.history

abbrev pub invariant-loop-domain : goal.invariant-loop-domain
invariant-loop-domain g l =
    ((number : ℕ) → GoesIn number (state_of l.initial.self) [] (state_of l.self) (events_of l.initial.events) (events_of l.events)
    (g.D.Decider.gave l.initial.decider l.initial.self.book.platform) (g.D.Decider.gave l.decider l.initial.self.book.platform))
    × (g.D.Decider.given l.decider ≡ g.D.Decider.given l.initial.decider)
