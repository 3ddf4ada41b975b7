-- What the check of a file has done, by how it ended.
use Rattle.std.specs.Prelude.{◌≡◌, ◌≢◌, ℕ, ◌≤◌, ◌++◌, List, [], Option, Some, Result, Ok, Err}
use Rattle.std.specs.Prelude.{IfSome, codes, length, ⊤}
use Rattle.std.specs.Fmt.{decimal}
use Rattle.std.specs.Io.KnownBytes.{Appends}
use Rattle.certificate_text.specs.Paths.{path_text}
use Rattle.serde_json.specs.Data.{Data}
use Rattle.serde_json.specs.Find.{as_array}
use Rattle.serde_json.specs.View.{items_of}
use Rattle.script_reading.specs.Script.{ScriptFacts, script_of}
use Rattle.script_reading.specs.Text.{IsJson, longest}
use Rattle.script_reading.specs.declared.fault.ScriptFault.{ScriptFault}
use Rattle.verdict_claims.specs.declared.no.No.{No}
use Rattle.verdict_claims.specs.declared.no.No.TheVariants.{WrongShape, WrongNode, NoConflict}
use Rattle.verdict_claims.specs.declared.no.No.TheVariants.{NotMet, Missing, NotLeast}
use Rattle.script_check.specs.Checked.{Answers}
use Rattle.script_replay.specs.Outcome.{RunsTo}
use Rattle.script_run.specs.Run.{WritesText, WritesTextPart}
use Rattle.script_check.specs.declared.checked_file.CheckAnswer.{CheckAnswer}
use Rattle.script_check.specs.declared.checked_file.CheckAnswer.TheVariants as answers
use Rattle.script_replay.specs.declared.decider.Objection.{Objection}
use Rattle.script_run.specs.declared.fault.Disagreement.{Disagreement}
use Rattle.script_run.specs.declared.fault.RunFault.{RunFault}
use Rattle.script_run.specs.declared.fault.RunFault.TheVariants.{NoMemory, Read, Write}
use Rattle.script_run.specs.declared.fault.RunFault.TheVariants.{Script, Proof, Audit}
use Rattle.script_run.specs.declared.running.RunOutcome.{RunOutcome}
use Rattle.script_run.specs.declared.running.RunOutcome.TheVariants.{Done, MemoryRefused, CheckedNo}

-- the name of a test that fails
abbrev pub no_text : No → List ℕ
no_text WrongShape = codes "N1"
no_text WrongNode = codes "N2"
no_text NoConflict = codes "N3"
no_text NotMet = codes "N4"
no_text Missing = codes "N5"
no_text NotLeast = codes "N6"

-- `yes 3`, of so many objects, or `no N2 domain /0`
abbrev pub answer_text : CheckAnswer → ℕ → List ℕ
answer_text answers.Yes many = codes "yes " ++ decimal many ++ codes "\n"
answer_text (answers.No objection) many = codes "no " ++ no_text objection.no ++ codes " domain "
    ++ path_text objection.path ++ codes "\n"

-- the bytes, no more than a script may have, are one JSON value
pub record IsValueOf (bytes : List ℕ) (value : Data) : Type 0 where
  pub short : length bytes ≤ longest
  pub json : IsJson bytes value

-- they are a script
pub record IsScriptOf (input : List ℕ) (script : ScriptFacts) : Type 0 where
  pub value : Data
  pub spells : IsValueOf input value
  pub says : script_of value ≡ Ok script

-- they are a list of these objects
pub record IsListOf (bytes : List ℕ) (objects : List Data) : Type 0 where
  pub value : Data
  pub spells : IsValueOf bytes value
  pub list : as_array value ≡ Some (items_of objects)

-- they are no such list: too long, no JSON, or of another kind
abbrev pub IsNoList : List ℕ → Type 0
IsNoList bytes = (objects : List Data) → ¬ IsListOf bytes objects

-- a fault by which no certificate is answered: want of memory, or a
-- refusal of bytes that are no list
abbrev pub IsRefusal : List ℕ → RunFault → Type 0
IsRefusal bytes NoMemory = ⊤
IsRefusal bytes Proof = IsNoList bytes
IsRefusal bytes fault = ⊥

-- the bytes of a certificate answer this for a script, in this text
pub record AnswersIn (script : ScriptFacts) (certificate : List ℕ) (answer : CheckAnswer)
    (text : List ℕ) : Type 0 where
  pub objects : List Data
  pub lists : IsListOf certificate objects
  pub holds : Answers script.platform script.calls objects answer
  pub says : text ≡ answer_text answer (length objects)

-- the bytes of a script and of a certificate give this answer, in this text
pub record ChecksTo (input certificate : List ℕ) (answer : CheckAnswer)
    (text : List ℕ) : Type 0 where
  pub script : ScriptFacts
  pub reads : IsScriptOf input script
  pub holds : AnswersIn script certificate answer text

-- the bytes are a script, and those of the certificate no list
pub record ProofIsRefused (input certificate : List ℕ) : Type 0 where
  pub script : ScriptFacts
  pub reads : IsScriptOf input script
  pub none : IsNoList certificate

-- a fault by which bytes aren't checked: the script's, or want of memory, or that of a certificate
-- that is no list
abbrev pub IsUnchecked : List ℕ → List ℕ → RunFault → Type 0
IsUnchecked input certificate NoMemory = ⊤
IsUnchecked input certificate (Script fault) = RunsTo input (Err fault)
IsUnchecked input certificate Proof = ProofIsRefused input certificate
IsUnchecked input certificate fault = ⊥

-- what holds of the bytes of a script and of a certificate, where their readers tell them
abbrev pub IfBoth : Option (List ℕ) → Option (List ℕ) → (List ℕ → List ℕ → Type 0) → Type 0
IfBoth had proof P = IfSome had (λ input. IfSome proof (λ certificate. P input certificate))

-- what the readers of the script and of the certificate had, where they tell it, and what the
-- writer held before and after, where it tells that
pub record HasChecked (result : Result RunOutcome RunFault)
    (had proof before after : Option (List ℕ)) : Type 0 where
  pub yes : result ≡ Ok Done → IfBoth had proof (λ input certificate.
      WritesText (ChecksTo input certificate answers.Yes) before after)
  pub no : result ≡ Ok CheckedNo → IfBoth had proof (λ input certificate. WritesText
      (λ text. (objection : Objection) × ChecksTo input certificate (answers.No objection) text)
      before after)
  pub fed : result ≢ Ok MemoryRefused
  pub no_audit : (found : Disagreement) → result ≢ Err (Audit found)
  pub script : (fault : ScriptFault) → result ≡ Err (Script fault)
      → IfSome had (λ input. RunsTo input (Err fault))
  pub proof_refused : result ≡ Err Proof → IfBoth had proof ProofIsRefused
  pub front : result ≡ Err Write → IfBoth had proof (λ input certificate. WritesTextPart
      (λ text. (answer : CheckAnswer) × ChecksTo input certificate answer text) before after)
  pub unwritten : (fault : RunFault) → result ≡ Err fault → fault ≢ Write → Appends before after []

-- a fault of a script
abbrev pub IsScriptFault : Result RunOutcome RunFault → Type 0
IsScriptFault (Err (Script fault)) = ⊤
IsScriptFault _ = ⊥

-- a reader, the writer or memory failed: no fault of the script or of the certificate
abbrev pub IsOutside : RunFault → Type 0
IsOutside Read = ⊤
IsOutside Write = ⊤
IsOutside NoMemory = ⊤
IsOutside fault = ⊥

-- how a check ends of bytes whose answer is yes, of so many objects: that was written, or a
-- reader, the writer or memory failed
abbrev pub EndsInYes : ℕ → Option (List ℕ) → Option (List ℕ) → Result RunOutcome RunFault → Type 0
EndsInYes many before after (Ok Done) = Appends before after (answer_text answers.Yes many)
EndsInYes many before after (Ok ended) = ⊥
EndsInYes many before after (Err fault) = IsOutside fault
