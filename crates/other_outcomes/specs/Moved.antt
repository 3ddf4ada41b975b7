-- What is promised of a script's calls, of which some stand later.
use Rattle.std.specs.Prelude.{◌+◌, ◌++◌, ◌<◌, ℕ, List, length, map, take, drop, slice_range}
use Rattle.negotiation_inputs.specs.Platform.{PlatformFacts}
use Rattle.script_reading.specs.Seen.{call_seen}
use Rattle.script_reading.specs.declared.call.Call.{Call}
use Rattle.script_story.specs.Told.{IsReportedOn}
use Rattle.script_story.specs.declared.outcome.Outcome.{Outcome}

-- the calls, of which that at the first place, from 0, stands right after that at the second, a
-- later one
abbrev pub moving : List Call → ℕ → ℕ → List Call
moving calls from to =
    ((take from calls ++ slice_range calls (from + 1) (to + 1))
    ++ slice_range calls from (from + 1))
    ++ drop (to + 1) calls

-- some of the calls stand later, each right after a call that was a later one
pub data IsMoved (calls : List Call) : List Call → Type 0 where
  as_they_are : IsMoved calls calls
  one_more : (others : List Call) (from to : ℕ) → from < to → to < length others
      → IsMoved calls others → IsMoved calls (moving others from to)

-- with some calls later this becomes of the domain at a path, as the report says it
pub record IsPromisedMoved (platform : PlatformFacts) (calls : List Call)
    (path : List ℕ) (what : Outcome) : Type 0 where
  pub others : List Call
  pub moved : IsMoved calls others
  pub reported : IsReportedOn platform (map call_seen others) path what
