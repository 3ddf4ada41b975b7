-- The certificate beside the objects of a report.
use Rattle.std.specs.Prelude.{◌≡◌, ℕ, List, Bool, true, false, Option, Ok}
use Rattle.std.specs.Io.KnownBytes.{Appends}
use Rattle.serde_json.specs.Data.{Data}
use Rattle.script_reading.specs.Script.{ScriptFacts, script_of}
use Rattle.script_replay.specs.Events.{EventFacts, HappensTo}
use Rattle.script_replay.specs.Proving.{AreProved}
use Rattle.script_replay.specs.State.{RunState}
use Rattle.script_run.specs.Certificate.{CertifiesTo}
use Rattle.script_run.specs.declared.running.RunOutcome.{RunOutcome}
use Rattle.script_run.specs.declared.running.RunOutcome.TheVariants.{Done, MemoryRefused}

-- what happens where the calls of the script are made that a value spells, each decision with its
-- proof, and how they leave the collection
pub record HappensIn (value : Data) (events : List EventFacts) (last : RunState) : Type 0 where
  pub script : ScriptFacts
  pub read : script_of value ≡ Ok script
  pub happens : HappensTo script.platform script.calls AreProved events last

-- how a run ends in which memory was refused or not
abbrev pub outcome_of : Bool → RunOutcome
outcome_of true = MemoryRefused
outcome_of false = Done

-- the certificate of a report of these bytes was written
pub record WritesCertificate (input : List ℕ) (starved : Bool) (before after : Option (List ℕ))
    : Type 0 where
  pub text : List ℕ
  pub certificate : List ℕ
  pub certified : CertifiesTo input
      (Ok (record { text = text; certificate = certificate; starved = starved }))
  pub written : Appends before after certificate
