-- What is promised of a script's calls, of which one states no constraints.
use Rattle.std.specs.Prelude.{ℕ, List, None, map, set, slice_get}
use Rattle.std.specs.Option.{option_map_or}
use Rattle.negotiation_inputs.specs.Platform.{PlatformFacts}
use Rattle.script_reading.specs.declared.call.Act.TheVariants.{SetConstraints}
use Rattle.script_reading.specs.declared.call.Call.{Call}
use Rattle.script_reading.specs.Seen.{call_seen}
use Rattle.script_story.specs.Told.{IsReportedOn}
use Rattle.script_story.specs.declared.outcome.Outcome.{Outcome}

-- the calls, of which that at a place, from 0, sets constraints and states none
abbrev pub unstating : List Call → ℕ → List Call
unstating calls place =
    option_map_or (λ call. set calls place (record call { act = SetConstraints None }))
    (slice_get calls place) calls

-- without constraints at a place this becomes of the domain at a path, as the report says it
abbrev pub IsPromisedUnstated : PlatformFacts → List Call → ℕ → List ℕ → Outcome → Type 0
IsPromisedUnstated platform calls place path what =
    IsReportedOn platform (map call_seen (unstating calls place)) path what
