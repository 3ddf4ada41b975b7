-- The words of a refusal, which are the program's own.
use Rattle.std.specs.Prelude.{ℕ, ◌++◌, List, codes}
use Rattle.std.specs.Fmt.{decimal}
use Rattle.script_reading.specs.declared.fault.ScriptFault.{ScriptFault}
use Rattle.script_reading.specs.declared.fault.ScriptFault.TheVariants.{TooLong, NotJson, Misshapen, CallMisshapen}
use Rattle.script_reading.specs.declared.fault.ScriptFault.TheVariants.{BadName, Platform, TooManyCalls, TooManyActors}
use Rattle.script_reading.specs.declared.fault.ScriptFault.TheVariants.{SharedName}
use Rattle.record_reading.specs.Faults.{fault_text}

-- `Q4 at call 7`
abbrev pub at_call : List ℕ → ℕ → List ℕ
at_call code number = code ++ codes " at call " ++ decimal number

abbrev pub script_words : ScriptFault → List ℕ
script_words TooLong = codes "Q1"
script_words NotJson = codes "Q2"
script_words Misshapen = codes "Q3"
script_words (CallMisshapen number) = at_call (codes "Q3") number
script_words (BadName number) = at_call (codes "Q4") number
script_words (Platform fault) = codes "Q5 " ++ fault_text fault
script_words TooManyCalls = codes "Q6"
script_words (TooManyActors number) = at_call (codes "Q6") number
script_words (SharedName number) = at_call (codes "Q7") number

-- `script refused: Q4 at call 7`
abbrev pub refusal_words : ScriptFault → List ℕ
refusal_words fault = codes "script refused: " ++ script_words fault
