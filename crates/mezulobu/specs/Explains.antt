-- What an explanation says of the bytes that it is given, by its status.
use Rattle.std.specs.Prelude.{◌≡◌, ℕ, List, Bool, true, Option, Some, None, Ok, Err}
use Rattle.serde_json.specs.Data.{Data}
use Rattle.script_reading.specs.Script.{ScriptFacts, script_of}
use Rattle.script_reading.specs.Text.{Outcome}
use Rattle.script_reading.specs.declared.fault.ScriptFault.{ScriptFault}
use Rattle.script_replay.specs.Outcome.{RunsTo}

-- the value of a script has this first fault, or is one of a platform and calls
abbrev pub IsFaultOf : Data → Option ScriptFault → Type 0
IsFaultOf value (Some fault) = script_of value ≡ Err fault
IsFaultOf value None = (script : ScriptFacts) × (script_of value ≡ Ok script)

-- the bytes spell a platform and calls
abbrev pub IsScript : List ℕ → Type 0
IsScript bytes = (script : ScriptFacts)
    × Outcome (λ value answer. script_of value ≡ answer) bytes (Ok script)

-- the bytes have this first fault, or are a script
abbrev pub HasFault : List ℕ → Option ScriptFault → Type 0
HasFault bytes (Some fault) = RunsTo bytes (Err fault)
HasFault bytes None = IsScript bytes

-- an explanation: at 3 of bytes that have a fault, and at 0 of a script; at 6 too, where the status
-- is to tell whether all went well
pub data ExplanationSays (bytes : List ℕ) (is_strict : Bool) : ℕ → List ℕ → Type 0 where
  explains : (text : List ℕ) → IsScript bytes → ExplanationSays bytes is_strict 0 text
  warns : (text : List ℕ) → is_strict ≡ true → IsScript bytes
      → ExplanationSays bytes is_strict 6 text
  shows_fault : (fault : ScriptFault) (text : List ℕ) → RunsTo bytes (Err fault)
      → ExplanationSays bytes is_strict 3 text
