-- What a run on threads has done, by how it ended.
use Rattle.std.specs.Prelude.{◌≡◌, ◌≢◌, ℕ, Bool, false, List, [], Option, Result, Ok, Err, IfSome}
use Rattle.std.specs.Prelude.{⊤}
use Rattle.std.specs.Io.KnownBytes.{Appends}
use Rattle.byte_transfer.specs.Transfer.{WritesFront}
use Rattle.serde_json.specs.Data.{Data}
use Rattle.script_reading.specs.Apart.{script_apart}
use Rattle.script_reading.specs.declared.fault.ParseFault.TheVariants as parsing
use Rattle.script_reading.specs.declared.fault.ScriptFault.{ScriptFault}
use Rattle.script_reading.specs.Script.{ScriptFacts}
use Rattle.script_reading.specs.Text.{Outcome}
use Rattle.script_run.specs.declared.fault.Disagreement.{Disagreement}
use Rattle.script_run.specs.declared.fault.Disagreement.TheVariants.{Handles, Calls, Verdicts}
use Rattle.script_run.specs.declared.fault.RunFault.{RunFault}
use Rattle.script_run.specs.declared.fault.RunFault.TheVariants.{Write, NoMemory, Script, Proof, Audit}
use Rattle.script_run.specs.declared.running.RunOutcome.{RunOutcome}
use Rattle.script_run.specs.declared.running.RunOutcome.TheVariants.{Done, CheckedNo}
use Rattle.script_run.specs.Faults.{fault_of_parse}
use Rattle.sysmem_participants.specs.declared.faults.AuditFault.{AuditFault}
use Rattle.sysmem_participants.specs.declared.faults.AuditFault.TheVariants as audits
use Rattle.script_threads.specs.declared.fault.PlayFault.{PlayFault}
use Rattle.script_threads.specs.declared.fault.PlayFault.TheVariants as plays
use Rattle.script_threads.specs.Text.{IsText}

-- the fault of a run whose audit answers this
abbrev pub fault_of_audit : AuditFault → RunFault
fault_of_audit audits.Stubs = Audit Handles
fault_of_audit audits.Calls = Audit Calls
fault_of_audit audits.Verdicts = Audit Verdicts
fault_of_audit audits.NoMemory = NoMemory

-- the fault of a run whose script isn't played to its end
abbrev pub fault_of_play : PlayFault → RunFault
fault_of_play (plays.Parse fault) = fault_of_parse fault
fault_of_play (plays.Audit fault) = fault_of_audit fault

-- the script for threads that bytes spell, or the first fault of theirs
abbrev pub SpellsApart : List ℕ → Result ScriptFacts ScriptFault → Type 0
SpellsApart input said = Outcome (λ value answer. script_apart value ≡ answer) input said

-- bytes spell a script for threads
pub record IsPlayable (input : List ℕ) : Type 0 where
  pub script : ScriptFacts
  pub spells : SpellsApart input (Ok script)

-- what is told of the bytes of a script: that they spell one, or the first fault of theirs
abbrev pub TellsOf : {X : Type 0} → List ℕ → Result X PlayFault → Type 0
TellsOf input (Ok told) = IsPlayable input
TellsOf input (Err (plays.Parse (parsing.Refused fault))) = SpellsApart input (Err fault)
TellsOf input (Err (plays.Parse parsing.NoMemory)) = ⊤
TellsOf input (Err (plays.Audit fault)) = IsPlayable input

-- a value is a script for threads
pub record IsScript (value : Data) : Type 0 where
  pub script : ScriptFacts
  pub says : script_apart value ≡ Ok script

-- the same of a script's value
abbrev pub TellsOfValue : {X : Type 0} → Data → Result X PlayFault → Type 0
TellsOfValue value (Ok told) = IsScript value
TellsOfValue value (Err (plays.Parse (parsing.Refused fault))) = script_apart value ≡ Err fault
TellsOfValue value (Err (plays.Parse parsing.NoMemory)) = ⊤
TellsOfValue value (Err (plays.Audit fault)) = IsScript value

-- a text was written, and nothing else; whether a line of it says that memory was refused
pub record Writes (starved : Bool) (before after : Option (List ℕ)) : Type 0 where
  pub text : List ℕ
  pub is_text : IsText starved text
  pub written : Appends before after text

-- a prefix of a text was written, and nothing else
pub record WritesPart (before after : Option (List ℕ)) : Type 0 where
  pub starved : Bool
  pub text : List ℕ
  pub is_text : IsText starved text
  pub front : WritesFront before after text

-- what the reader had, where it tells it, and what the writer held before and after, where it
-- tells that
pub record Played (result : Result RunOutcome RunFault)
    (had before after : Option (List ℕ)) : Type 0 where
  pub played : (ended : RunOutcome) → result ≡ Ok ended → IfSome had IsPlayable
  pub written : (ended : RunOutcome) → result ≡ Ok ended → (starved : Bool) × Writes starved before after
  pub done : result ≡ Ok Done → Writes false before after
  pub unchecked : result ≢ Ok CheckedNo
  pub no_proof : result ≢ Err Proof
  pub refused : (fault : ScriptFault) → result ≡ Err (Script fault)
      → IfSome had (λ input. SpellsApart input (Err fault))
  pub audited : (found : Disagreement) → result ≡ Err (Audit found) → IfSome had IsPlayable
  pub failed : result ≡ Err Write → IfSome had IsPlayable
  pub front : result ≡ Err Write → WritesPart before after
  pub unwritten : (fault : RunFault) → result ≡ Err fault → fault ≢ Write → Appends before after []
