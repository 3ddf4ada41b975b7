-- What the reading of a script gives is what is told of it.
use Rattle.std.proofs.Common.{◌≡◌, ℕ, List, Bool, true, Option, Some, None, Result, Ok, Err, refl}
use Rattle.std.specs.Prelude.{IfOk}
use Rattle.std.specs.declared.alloc.AllocError.{AllocError}
use Rattle.serde_json.specs.Data.{Data}
use Rattle.script_reading.specs.declared.fault.ScriptFault.{ScriptFault}
use Rattle.script_reading.specs.Text.{Outcome, too_long, not_json, spelled, IsValue}
use Rattle.script_replay.specs.Outcome.{refused}
use Rattle.mezulobu.specs.Explains.{ExplanationSays, explains, warns, shows_fault, HasFault, IsFaultOf}

-- bytes that spell no value
pub fault_unspelled : (bytes : List ℕ) (fault : ScriptFault) → Outcome IsValue bytes (Err fault) → HasFault bytes (Some fault)
fault_unspelled bytes _ (too_long long) = too_long long
fault_unspelled bytes _ (not_json short none) = not_json short none
fault_unspelled bytes fault (spelled value short json _ said) = absurd (cc)

of_value : (bytes : List ℕ) (d : Data) (read : Result Data ScriptFault) (fault : Option ScriptFault) → read ≡ Ok d → Outcome IsValue bytes read → IsFaultOf d fault → HasFault bytes fault
of_value bytes d _ fault e (too_long long) said = absurd (cc)
of_value bytes d _ fault e (not_json short none) said = absurd (cc)
of_value bytes d _ (Some fault) e (spelled value short json _ is) said =
    let same : value ≡ d = (cc) in
    spelled d short (rw (← same) json) (Err fault) (refused fault said)
of_value bytes d _ None e (spelled value short json _ is) said =
    let same : value ≡ d = (cc) in
    (said.0, spelled d short (rw (← same) json) (Ok said.0) said.1)

-- bytes that spell a value
pub fault_spelled : (bytes : List ℕ) (d : Data) (result : Result (Option ScriptFault) AllocError) → Outcome IsValue bytes (Ok d) → IfOk result (IsFaultOf d) → IfOk result (HasFault bytes)
fault_spelled bytes d (Ok fault) spells said = of_value bytes d (Ok d) fault refl spells said
fault_spelled bytes d (Err error) spells said = tt

pub says_fault : (bytes text : List ℕ) (is_strict : Bool) (fault : ScriptFault) → HasFault bytes (Some fault) → ExplanationSays bytes is_strict 3 text
says_fault bytes text is_strict fault has = shows_fault fault text has

pub says_no : (bytes text : List ℕ) (is_strict : Bool) → is_strict ≡ true → HasFault bytes None → ExplanationSays bytes is_strict 6 text
says_no bytes text is_strict is has = warns text is has

pub says_done : (bytes text : List ℕ) (is_strict : Bool) → HasFault bytes None → ExplanationSays bytes is_strict 0 text
says_done bytes text is_strict has = explains text has
