-- What the bytes that were read give is what the input gives.
use Rattle.std.proofs.Common.{◌≡◌, ℕ, ◌≤◌, ◌++◌, List, [], length, Option, Some, None, Result, Ok, Err, ◌∙◌, ap, subst, append-nil, length-append, arith}
use Rattle.std.specs.Prelude.{IfSome}
use Rattle.byte_transfer.specs.Transfer.{ReadsToLimit}
use Rattle.script_reading.specs.declared.fault.ScriptFault.{ScriptFault}
use Rattle.serde_json.specs.Data.{Data}
use Rattle.serde_json.specs.View.{view}
use Rattle.serde_json.specs.declared.value.Value.{Value}
use Rattle.script_reading.specs.declared.fault.ParseFault.{ParseFault}
use Rattle.script_reading.specs.declared.fault.ParseFault.TheVariants.{NoMemory, Refused}
use Rattle.script_reading.specs.declared.script.Script.{Script}
use Rattle.script_reading.specs.Faults.{Gives, GivesOneOf}
use Rattle.script_reading.specs.Script.{ScriptFacts, script_of}
use Rattle.script_reading.specs.Seen.{script_seen}
use Rattle.script_reading.specs.Text.{IsValue, Outcome, too_long, not_json, spelled, longest}
use Rattle.script_replay.specs.Outcome.{ReportFacts, RunsTo, ValueRunsTo, anyhow, refused}
use Rattle.script_run.specs.declared.fault.RunFault.{RunFault}
use Rattle.script_run.specs.declared.fault.RunFault.TheVariants as faults
use Rattle.script_run.specs.Faults.{fault_of_parse}
use Rattle.script_run.proofs.Spelling.{runs-fault, runs-value}

whole_read : (input rest bytes : List ℕ) → input ≡ bytes ++ rest → (length bytes ≤ longest → rest ≡ []) → length bytes ≤ longest → input ≡ bytes
whole_read input rest bytes e all short = e ∙ (ap (λ (t : List ℕ). bytes ++ t) (all short) ∙ append-nil bytes)

runs_read : (input rest bytes : List ℕ) (said : Result ReportFacts ScriptFault) → input ≡ bytes ++ rest → (length bytes ≤ longest → rest ≡ []) → RunsTo bytes said → RunsTo input said
runs_read input rest bytes _ e all (too_long long) = rw e (too_long (omega (arith, length-append bytes rest)))
runs_read input rest bytes _ e all (not_json short none) = rw (whole_read input rest bytes e all short) (not_json short none)
runs_read input rest bytes _ e all (spelled value short json answer said) = rw (whole_read input rest bytes e all short) (spelled value short json answer said)

pub refused_input : (old new : Option (List ℕ)) (bytes : List ℕ) (fault : ScriptFault) → ReadsToLimit longest old new bytes → RunsTo bytes (Err fault) → IfSome old (λ input. RunsTo input (Err fault))
refused_input None new bytes fault read runs = tt
refused_input (Some input) None bytes fault read runs = absurd read.taken
refused_input (Some input) (Some rest) bytes fault read runs = runs_read input rest bytes (Err fault) read.taken read.all runs

-- the fault of a value that is no script
pub refused_value : (d : Data) (p : ParseFault) (e : RunFault) (fault : ScriptFault) → Gives {X = Script} {A = ScriptFacts} script_seen (Err p) (script_of d) → e ≡ fault_of_parse p → e ≡ faults.Script fault
    → ValueRunsTo anyhow d (Err fault)
refused_value d NoMemory e fault said is same = absurd (cc)
refused_value d (Refused found) e fault said is same = let f : found ≡ fault = (cc) in subst (λ (x : ScriptFault). ValueRunsTo anyhow d (Err x)) f (refused found said)

-- of bytes that spell none
pub refused_bytes : (bytes : List ℕ) (p : ParseFault) (e : RunFault) (fault : ScriptFault) → GivesOneOf {X = Value} {A = Data} view (Err p) (Outcome IsValue bytes) → e ≡ fault_of_parse p → e ≡ faults.Script fault
    → RunsTo bytes (Err fault)
refused_bytes bytes NoMemory e fault said is same = absurd (cc)
refused_bytes bytes (Refused found) e fault said is same = let f : found ≡ fault = (cc) in subst (λ (x : ScriptFault). RunsTo bytes (Err x)) f (runs-fault anyhow bytes (Refused found) said)

-- and of those that spell it
pub refused_spelled : (bytes : List ℕ) (d : Data) (fault : ScriptFault) → Outcome IsValue bytes (Ok d) → ValueRunsTo anyhow d (Err fault) → RunsTo bytes (Err fault)
refused_spelled bytes d fault spells said = runs-value anyhow bytes d (Err (Refused fault)) spells said
