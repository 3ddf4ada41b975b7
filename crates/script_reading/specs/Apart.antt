-- Scripts whose actors are threads: on each name one actor alone makes calls.
use Rattle.std.specs.Prelude.{ℕ, ◌+◌, ◌==◌, ◌∷◌, ◌++◌, [], ◌&&◌, not, Bool, List, Result}
use Rattle.std.specs.Prelude.{Ok, Err, if◌then◌else◌}
use Rattle.std.specs.List.{list_any}
use Rattle.serde_json.specs.Data.{Data, Items, no_items, item}
use Rattle.script_reading.specs.declared.fault.ScriptFault.{ScriptFault}
use Rattle.script_reading.specs.declared.fault.ScriptFault.TheVariants.{SharedName}
use Rattle.script_reading.specs.Script.{CallFacts, ScriptFacts, KnownFacts, ◌>>=◌}
use Rattle.script_reading.specs.Script.{call_of, nothing_known, script_by}

-- another actor made a call on the same name before
abbrev pub is_shared : List CallFacts → CallFacts → Bool
is_shared before call =
    list_any (λ c. (c.place == call.place) && not (c.actor == call.actor)) before

-- the calls from this number on after those before, where of a call's faults
-- the last is that its name is shared
unfoldable pub apart_from : ℕ → KnownFacts → List CallFacts → Items
    → Result (List CallFacts) ScriptFault
apart_from n known before no_items = Ok before
apart_from n known before (item call calls) = do
  next ← call_of n known call
  if is_shared before next.0 then Err (SharedName n)
      else apart_from (n + 1) next.1 (before ++ next.0 ∷ []) calls

-- a script's calls
abbrev pub calls_apart : Items → Result (List CallFacts) ScriptFault
calls_apart calls = apart_from 1 nothing_known [] calls

-- the script for threads that a value stands for
abbrev pub script_apart : Data → Result ScriptFacts ScriptFault
script_apart value = script_by calls_apart value
