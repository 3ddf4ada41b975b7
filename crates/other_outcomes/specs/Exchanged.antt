-- What is promised of a script's calls, of which two make each other's names.
use Rattle.std.specs.Prelude.{◌==◌, ℕ, List, map, if◌then◌else◌}
use Rattle.negotiation_inputs.specs.Platform.{PlatformFacts}
use Rattle.script_reading.specs.Seen.{call_seen}
use Rattle.script_reading.specs.declared.call.Call.{Call}
use Rattle.script_story.specs.Told.{IsReportedOn}
use Rattle.script_story.specs.declared.outcome.Outcome.{Outcome}

-- the call, on the other of two names where it is on one of them
abbrev pub on_other : ℕ → ℕ → Call → Call
on_other a b call = record call {
  place = if call.place == a then b else if call.place == b then a else call.place;
}

-- with two names exchanged wherever calls are made on them, this becomes of the domain at a path,
-- as the report says it
pub record IsPromisedExchanged (platform : PlatformFacts) (calls : List Call)
    (path : List ℕ) (what : Outcome) : Type 0 where
  pub a : ℕ
  pub b : ℕ
  pub reported : IsReportedOn platform (map call_seen (map (on_other a b) calls)) path what
