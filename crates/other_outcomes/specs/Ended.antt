-- What is promised of a script's calls, after which others end what is awaited.
use Rattle.std.specs.Prelude.{◌≡◌, ◌++◌, ◌∷◌, [], ℕ, Bool, true, false, List, map}
use Rattle.negotiation_inputs.specs.Platform.{PlatformFacts}
use Rattle.script_reading.specs.declared.call.Act.{Act}
use Rattle.script_reading.specs.declared.call.Act.TheVariants.{AllChildrenPresent, CreateChild}
use Rattle.script_reading.specs.declared.call.Act.TheVariants.{Release}
use Rattle.script_reading.specs.declared.call.Call.{Call}
use Rattle.script_reading.specs.Seen.{call_seen}
use Rattle.script_story.specs.Told.{IsReportedOn}
use Rattle.script_story.specs.declared.outcome.Outcome.{Outcome}

-- whether a call releases, makes a child of a group, or says that a group has all its children
abbrev pub is_ending : Act → Bool
is_ending Release = true
is_ending (CreateChild _) = true
is_ending AllChildrenPresent = true
is_ending _ = false

-- the calls, and such ones after them
pub data IsEnded (calls : List Call) : List Call → Type 0 where
  as_they_are : IsEnded calls calls
  one_more : (others : List Call) (call : Call) → is_ending call.act ≡ true
      → IsEnded calls others → IsEnded calls (others ++ call ∷ [])

-- with these calls, which are some with such ones after them, this becomes of the domain at a path,
-- as the report says it
pub record IsPromisedEnded (platform : PlatformFacts) (calls : List Call) (made : List Call)
    (path : List ℕ) (what : Outcome) : Type 0 where
  pub ended : IsEnded calls made
  pub reported : IsReportedOn platform (map call_seen made) path what
