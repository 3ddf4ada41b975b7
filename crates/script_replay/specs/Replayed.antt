-- What a replay is: a report of calls, and the collection as they leave it.
use Rattle.std.specs.Prelude.{◌≡◌, ℕ, List}
use Rattle.negotiation_inputs.specs.Platform.{PlatformFacts}
use Rattle.script_reading.specs.Script.{CallFacts}
use Rattle.script_replay.specs.declared.replayed.ReplayedCalls.{ReplayedCalls}
use Rattle.script_replay.specs.Report.{Certified, IsReport}
use Rattle.script_replay.specs.Runner.{state_of}
use Rattle.script_replay.specs.State.{RunState}

-- how the last call and the decisions after it left the collection
abbrev pub end_of : ReplayedCalls → RunState
end_of replayed = state_of replayed.runner

-- a text is the report of calls on a new collection, which they and
-- their decisions leave in this state
pub record LeavesIn (platform : PlatformFacts) (rs : List CallFacts) (text : List ℕ)
    (last : RunState) : Type 0 where
  pub decisions : List Certified
  pub report : IsReport platform rs text decisions last.starved
  pub stands : report.last ≡ last
