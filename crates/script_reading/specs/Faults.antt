-- What a call answers that reads a script, beside what the script says.
use Rattle.std.specs.Prelude.{◌≡◌, Result, Ok, Err, ⊤}
use Rattle.script_reading.specs.declared.fault.ParseFault.{ParseFault}
use Rattle.script_reading.specs.declared.fault.ParseFault.TheVariants.{NoMemory, Refused}
use Rattle.script_reading.specs.declared.fault.ScriptFault.{ScriptFault}

-- The result, seen by `view`, is one of those that are said, or memory was refused.
abbrev pub GivesOneOf : {X A : Type 0} → (X → A) → Result X ParseFault
    → (Result A ScriptFault → Type 0) → Type 0
GivesOneOf view (Ok x) IsSaid = IsSaid (Ok (view x))
GivesOneOf view (Err NoMemory) IsSaid = ⊤
GivesOneOf view (Err (Refused fault)) IsSaid = IsSaid (Err fault)

-- The result, seen by `view`, is what is said, or memory was refused.
abbrev pub Gives : {X A : Type 0} → (X → A) → Result X ParseFault → Result A ScriptFault → Type 0
Gives view result said = GivesOneOf view result (λ answer. said ≡ answer)
