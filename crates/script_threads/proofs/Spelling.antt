-- What the bytes of a script give, from what their value gives.
use Rattle.std.proofs.Common.{◌≡◌, ◌≤◌, ◌++◌, ℕ, List, [], length, Option, Some, None, Result, Ok, Err, refl, length-append, arith}
use Rattle.std.specs.Prelude.{IfSome}
use Rattle.byte_transfer.specs.Transfer.{ReadsToLimit}
use Rattle.serde_json.specs.Data.{Data}
use Rattle.serde_json.specs.View.{view}
use Rattle.serde_json.specs.declared.value.Value.{Value}
use Rattle.script_reading.specs.Apart.{script_apart}
use Rattle.script_reading.specs.declared.fault.ParseFault.{ParseFault}
use Rattle.script_reading.specs.declared.fault.ParseFault.TheVariants.{NoMemory, Refused}
use Rattle.script_reading.specs.declared.fault.ScriptFault.{ScriptFault}
use Rattle.script_reading.specs.Faults.{GivesOneOf}
use Rattle.script_reading.specs.Script.{ScriptFacts}
use Rattle.script_reading.specs.Text.{Outcome, too_long, not_json, spelled, longest, IsValue}
use Rattle.script_run.proofs.CallerLemmas.{whole-read}
use Rattle.script_threads.specs.declared.fault.PlayFault.{PlayFault}
use Rattle.script_threads.specs.declared.fault.PlayFault.TheVariants.{Parse, Audit}
use Rattle.script_threads.specs.declared.playing.PlayReport.{PlayReport}
use Rattle.script_threads.specs.Run.{IsPlayable, SpellsApart, TellsOf, TellsOfValue}

no_value : (bytes : List ℕ) (fault : ScriptFault) → Outcome IsValue bytes (Err fault) → SpellsApart bytes (Err fault)
no_value bytes _ (too_long long) = too_long long
no_value bytes _ (not_json short none) = not_json short none
no_value bytes fault (spelled value short json _ said) = absurd (cc)

-- bytes that spell no value
pub tells-fault : (bytes : List ℕ) (fault : ParseFault) → GivesOneOf {X = Value} {A = Data} view (Err fault) (Outcome IsValue bytes) → TellsOf {X = PlayReport} bytes (Err (Parse fault))
tells-fault bytes NoMemory said = tt
tells-fault bytes (Refused fault) said = no_value bytes fault said

spells : (bytes : List ℕ) (d : Data) (read : Result Data ScriptFault) (answer : Result ScriptFacts ScriptFault) → read ≡ Ok d → Outcome IsValue bytes read → script_apart d ≡ answer → SpellsApart bytes answer
spells bytes d _ answer e (too_long long) said = absurd (cc)
spells bytes d _ answer e (not_json short none) said = absurd (cc)
spells bytes d _ answer e (spelled value short json _ is) said =
    let same : value ≡ d = (cc) in
    spelled d short (rw (← same) json) answer said

-- bytes that spell a value
pub tells-value : (bytes : List ℕ) (d : Data) (result : Result PlayReport PlayFault) → Outcome IsValue bytes (Ok d) → TellsOfValue d result → TellsOf bytes result
tells-value bytes d (Ok told) spelled_by said = record { script = said.script; spells = spells bytes d (Ok d) (Ok said.script) refl spelled_by said.says }
tells-value bytes d (Err (Parse NoMemory)) spelled_by said = tt
tells-value bytes d (Err (Parse (Refused fault))) spelled_by said = spells bytes d (Ok d) (Err fault) refl spelled_by said
tells-value bytes d (Err (Audit fault)) spelled_by said = record { script = said.script; spells = spells bytes d (Ok d) (Ok said.script) refl spelled_by said.says }

spells-read : (input rest bytes : List ℕ) (said : Result ScriptFacts ScriptFault) → input ≡ bytes ++ rest → (length bytes ≤ longest → rest ≡ []) → SpellsApart bytes said → SpellsApart input said
spells-read input rest bytes _ e all (too_long long) = rw e (too_long (omega (arith, length-append bytes rest)))
spells-read input rest bytes _ e all (not_json short none) = rw (whole-read input rest bytes e all short) (not_json short none)
spells-read input rest bytes _ e all (spelled value short json answer said) = rw (whole-read input rest bytes e all short) (spelled value short json answer said)

-- what holds of the bytes that were read holds of the input
pub spells-input : (old new : Option (List ℕ)) (bytes : List ℕ) (said : Result ScriptFacts ScriptFault) → ReadsToLimit longest old new bytes → SpellsApart bytes said → IfSome old (λ input. SpellsApart input said)
spells-input None new bytes said read is = tt
spells-input (Some input) None bytes said read is = absurd read.taken
spells-input (Some input) (Some rest) bytes said read is = spells-read input rest bytes said read.taken read.all is

some_script : (old : Option (List ℕ)) (script : ScriptFacts) → IfSome old (λ input. SpellsApart input (Ok script)) → IfSome old IsPlayable
some_script None script is = tt
some_script (Some input) script is = record { script = script; spells = is }

pub playable-input : (old new : Option (List ℕ)) (bytes : List ℕ) → ReadsToLimit longest old new bytes → IsPlayable bytes → IfSome old IsPlayable
playable-input old new bytes read is = some_script old is.script (spells-input old new bytes (Ok is.script) read is.spells)
