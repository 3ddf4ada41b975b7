-- The bytes of a script, and the value that they spell.
use Rattle.std.specs.Prelude.{◌≡◌, ℕ, ◌<◌, ◌≤◌, List, length, Result, Ok, Err, Some, IsUtf8}
use Rattle.serde_json.specs.Data.{Data}
use Rattle.serde_json.specs.Read.{read}
use Rattle.script_reading.specs.declared.fault.ScriptFault.{ScriptFault}
use Rattle.script_reading.specs.declared.fault.ScriptFault.TheVariants.{TooLong, NotJson}

-- the length of the longest script, in bytes
abbrev pub longest : ℕ
longest = 4194304

-- The bytes are one JSON value.
pub record IsJson (bytes : List ℕ) (value : Data) : Type 0 where
  pub text : IsUtf8 bytes
  pub spelled : read bytes ≡ Some value

-- What the bytes of a script give, where `IsSaid value` is what its value gives.
pub data Outcome {A : Type 0} (IsSaid : Data → Result A ScriptFault → Type 0)
    (bytes : List ℕ) : Result A ScriptFault → Type 0 where
  too_long : longest < length bytes → Outcome IsSaid bytes (Err TooLong)
  not_json : length bytes ≤ longest → ((value : Data) → ¬ IsJson bytes value)
      → Outcome IsSaid bytes (Err NotJson)
  spelled : (value : Data) → length bytes ≤ longest → IsJson bytes value
      → (answer : Result A ScriptFault) → IsSaid value answer → Outcome IsSaid bytes answer

-- The answer is the value itself.
abbrev pub IsValue : Data → Result Data ScriptFault → Type 0
IsValue value answer = answer ≡ Ok value
