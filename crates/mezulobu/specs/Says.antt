-- What a call says of the bytes that it is given, by its status.
use Rattle.std.specs.Prelude.{ℕ, List, [], Ok, Err, false, codes}
use Rattle.script_reading.specs.declared.fault.ScriptFault.{ScriptFault}
use Rattle.script_run.specs.Certificate.{CertifiesTo}
use Rattle.script_check.specs.CheckedFile.{ChecksTo, ProofIsRefused}
use Rattle.script_check.specs.declared.checked_file.CheckAnswer.{CheckAnswer}
use Rattle.script_check.specs.declared.checked_file.CheckAnswer.TheVariants.{Yes, No}
use Rattle.script_replay.specs.Outcome.{RunsTo}
use Rattle.script_replay.specs.declared.decider.Objection.{Objection}
use Rattle.mezulobu.specs.Words.{refusal_words}

-- a run: at 0 a report of the script, in which memory wasn't refused, and at 3 the words of its
-- first fault
pub data RunSays (script : List ℕ) : ℕ → List ℕ → Type 0 where
  reports : (text : List ℕ) → RunsTo script (Ok (record { text = text; starved = false }))
      → RunSays script 0 text
  refuses : (fault : ScriptFault) → RunsTo script (Err fault)
      → RunSays script 3 (refusal_words fault)

-- a run with a certificate: at 0 the report and the certificate of its decisions, and at 3 no
-- certificate
pub data ProvedRunSays (script : List ℕ) : ℕ → List ℕ → List ℕ → Type 0 where
  proves : (text certificate : List ℕ)
      → CertifiesTo script (Ok (record { text = text; certificate = certificate; starved = false }))
      → ProvedRunSays script 0 text certificate
  refuses_unproved : (fault : ScriptFault) → RunsTo script (Err fault)
      → ProvedRunSays script 3 (refusal_words fault) []

-- the status of a check's answer
abbrev pub check_status : CheckAnswer → ℕ
check_status Yes = 0
check_status (No objection) = 6

-- a check: at 0 `yes N`, where each verdict is accepted, at 6 `no Nk domain PATH`, of the first
-- that isn't, and at 3 the words of what is refused: the script, or else the certificate
pub data CheckSays (script certificate : List ℕ) : ℕ → List ℕ → Type 0 where
  accepts : (text : List ℕ) → ChecksTo script certificate Yes text
      → CheckSays script certificate 0 text
  objects : (objection : Objection) (text : List ℕ)
      → ChecksTo script certificate (No objection) text → CheckSays script certificate 6 text
  refuses_script : (fault : ScriptFault) → RunsTo script (Err fault)
      → CheckSays script certificate 3 (refusal_words fault)
  refuses_certificate : ProofIsRefused script certificate
      → CheckSays script certificate 3 (codes "proof refused")
