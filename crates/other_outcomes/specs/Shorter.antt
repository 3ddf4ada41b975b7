-- What is promised of a script's calls, of which some are left out.
use Rattle.std.specs.Prelude.{◌+◌, ◌++◌, ◌<◌, ℕ, List, length, map, take, drop}
use Rattle.negotiation_inputs.specs.Platform.{PlatformFacts}
use Rattle.script_reading.specs.Seen.{call_seen}
use Rattle.script_reading.specs.declared.call.Call.{Call}
use Rattle.script_story.specs.Told.{IsReportedOn}
use Rattle.script_story.specs.declared.outcome.Outcome.{Outcome}

-- the calls without the one at a place, from 0
abbrev pub leaving_out : List Call → ℕ → List Call
leaving_out calls place = take place calls ++ drop (place + 1) calls

-- some of the calls are left out
pub data IsShorter (calls : List Call) : List Call → Type 0 where
  as_they_are : IsShorter calls calls
  one_less : (others : List Call) (place : ℕ) → place < length others
      → IsShorter calls others → IsShorter calls (leaving_out others place)

-- without some calls this becomes of the domain at a path, as the report says it
pub record IsPromisedShorter (platform : PlatformFacts) (calls : List Call)
    (path : List ℕ) (what : Outcome) : Type 0 where
  pub others : List Call
  pub shorter : IsShorter calls others
  pub reported : IsReportedOn platform (map call_seen others) path what
