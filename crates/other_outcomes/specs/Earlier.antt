-- What is promised of a script's calls, of which one that makes a name stands earlier.
use Rattle.std.specs.Prelude.{◌≡◌, ◌+◌, ◌==◌, ◌&&◌, ℕ, List, nat_le, nat_lt, map, if◌then◌else◌}
use Rattle.negotiation_inputs.specs.Platform.{PlatformFacts}
use Rattle.script_reading.specs.Seen.{call_seen}
use Rattle.script_reading.specs.declared.call.Call.{Call}
use Rattle.script_story.specs.Told.{IsReportedOn}
use Rattle.script_story.specs.declared.outcome.Outcome.{Outcome}
use Rattle.other_outcomes.specs.Moved.{IsMoved}

-- the place that a name has once the second is made right before the first
abbrev pub new_place : ℕ → ℕ → ℕ → ℕ
new_place first second place =
    if place == second then first
    else if nat_le first place && nat_lt place second then place + 1 else place

-- the call, on its name at the new place
abbrev pub in_turn : ℕ → ℕ → Call → Call
in_turn first second call = record call { place = new_place first second call.place }

-- some calls stand later, and all are on their names at new places
pub record IsEarlier (calls : List Call) (made : List Call) : Type 0 where
  pub others : List Call
  pub moved : IsMoved calls others
  pub first : ℕ
  pub second : ℕ
  pub placed : made ≡ map (in_turn first second) others

-- with such calls this becomes of the domain at a path, as the report says it
pub record IsPromisedEarlier (platform : PlatformFacts) (calls : List Call)
    (path : List ℕ) (what : Outcome) : Type 0 where
  pub made : List Call
  pub earlier : IsEarlier calls made
  pub reported : IsReportedOn platform (map call_seen made) path what
