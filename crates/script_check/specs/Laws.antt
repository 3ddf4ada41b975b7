-- What is true of reports, whoever writes them.
use Rattle.std.specs.Prelude.{◌≡◌, ℕ, ◌≤◌, All, List, length, Bool, false, Option, Some}
use Rattle.std.specs.Prelude.{None, Result, Ok, Err}
use Rattle.serde_json.specs.Data.{array}
use Rattle.serde_json.specs.View.{items_of}
use Rattle.verdict_claims.specs.declared.certificate.Claim.{Claim}
use Rattle.verdict_claims.specs.declared.certificate.Proof.TheVariants.{Nothing}
use Rattle.verdict_claims.specs.declared.verdict.Verdict.TheVariants.{NoMemory}
use Rattle.negotiation_inputs.specs.Platform.{PlatformFacts, IsPlatform}
use Rattle.certificate_text.specs.CanBeRead.{HasHeapIds}
use Rattle.certificate_text.specs.Said.{claim_said}
use Rattle.certificate_text.specs.Told.{decision_data}
use Rattle.script_reading.specs.declared.fault.ScriptFault.{ScriptFault}
use Rattle.script_reading.specs.Text.{IsJson, longest}
use Rattle.script_replay.specs.Proving.{AreProved}
use Rattle.script_run.specs.Certificate.{CertifiedFacts, CertifiesTo}
use Rattle.script_run.specs.Certificate.{IsCertifiedBy, certificate_of, data_of}
use Rattle.script_check.specs.declared.checked_file.CheckAnswer.{CheckAnswer}
use Rattle.script_check.specs.declared.checked_file.CheckAnswer.TheVariants as answers
use Rattle.script_run.specs.declared.fault.RunFault.{RunFault}
use Rattle.script_run.specs.declared.running.RunOutcome.{RunOutcome}
use Rattle.script_check.specs.CheckedFile.{ChecksTo, EndsInYes, HasChecked, IsScriptOf, answer_text}
use Rattle.script_replay.specs.Outcome.{ReportFacts, RunsTo}
use Rattle.script_replay.specs.Report.{Certified, IsReport, IsReported}
use Rattle.script_reading.specs.Script.{CallFacts, ScriptFacts}

-- the calls of a script have one report on a platform, where memory is not
-- refused, whatever proves the decisions
abbrev pub OneReport : Type 0
OneReport = (platform : PlatformFacts) (rs : List CallFacts) (a b : List ℕ) (cs ds : List Certified)
    → IsReport platform rs a cs false → IsReport platform rs b ds false → a ≡ b

-- a fault, or a report in which memory is not refused
abbrev pub IsFed : Result ReportFacts ScriptFault → Type 0
IsFed (Ok report) = report.starved ≡ false
IsFed (Err fault) = Unit {0}

-- the bytes of a script give one answer, where memory is not refused: a fault or a report
abbrev pub OneAnswer : Type 0
OneAnswer = (input : List ℕ) (a b : Result ReportFacts ScriptFault) → RunsTo input a
    → RunsTo input b → IsFed a → IsFed b → a ≡ b

-- bytes with a fault give that fault and nothing else, whether or not memory is refused
abbrev pub FaultIsAlone : Type 0
FaultIsAlone = (input : List ℕ) (fault : ScriptFault) (b : Result ReportFacts ScriptFault)
    → RunsTo input (Err fault) → RunsTo input b → b ≡ Err fault

-- what is given with a certificate, without it
abbrev pub uncertified : Result CertifiedFacts ScriptFault → Result ReportFacts ScriptFault
uncertified (Ok certified) = Ok (record { text = certified.text; starved = certified.starved })
uncertified (Err fault) = Err fault

-- what the bytes of a script give with a certificate they give without it
abbrev pub CertifiedIsReport : Type 0
CertifiedIsReport = (input : List ℕ) (answer : Result CertifiedFacts ScriptFault)
    → CertifiesTo input answer → RunsTo input (uncertified answer)

-- the claim that a decision's object makes: where memory was wanted, that it was
abbrev pub claim_told : Option Claim → Claim
claim_told (Some claim) = claim
claim_told None = record { verdict = NoMemory; proof = Nothing }

-- the certificate of decisions is JSON, a list of their objects, of
-- which each is read as its decision
pub record AreReadBack (platform : PlatformFacts) (decisions : List Certified) : Type 0 where
  pub spelled : IsJson (certificate_of platform decisions)
      (array (items_of (data_of platform decisions)))
  pub each : All
      (λ c. claim_said platform (decision_data platform c.0 c.1) ≡ Some (c.0, claim_told c.1))
      decisions

-- the certificate of a report on a platform of the profile, whose
-- decisions have their proofs, is read back
abbrev pub CertificatesReadBack : Type 0
CertificatesReadBack =
    (platform : PlatformFacts) (rs : List CallFacts) (text : List ℕ) (decisions : List Certified)
    (starved : Bool)
    → IsPlatform platform.heaps platform.pairs platform.colours → HasHeapIds platform
    → IsReport platform rs text decisions starved → AreProved decisions
    → AreReadBack platform decisions

-- the bytes of a script and of a certificate give one answer, in one text
abbrev pub OneCheck : Type 0
OneCheck = (input certificate : List ℕ) (a b : CheckAnswer) (s t : List ℕ)
    → ChecksTo input certificate a s → ChecksTo input certificate b t → (a ≡ b) × (s ≡ t)

-- the bytes are a script, and have a report with this certificate; with it they answer yes,
-- of as many objects as there are decisions, and each check of them writes that, unless a
-- reader, the writer or memory fails
pub record IsAccepted (input : List ℕ) (c : CertifiedFacts) : Type 0 where
  pub script : ScriptFacts
  pub reads : IsScriptOf input script
  pub report : IsReported script.platform script.calls (IsCertifiedBy c.certificate script.platform)
      c.text false
  pub checks : ChecksTo input c.certificate answers.Yes
      (answer_text answers.Yes (length report.decisions))
  pub ends : (result : Result RunOutcome RunFault) (before after : Option (List ℕ))
      → HasChecked result (Some input) (Some c.certificate) before after
      → EndsInYes (length report.decisions) before after result

-- the certificate of a report is accepted, where memory was not refused and it is no
-- longer than one that is read may be
abbrev pub CertificatesAreAccepted : Type 0
CertificatesAreAccepted = (input : List ℕ) (c : CertifiedFacts) → CertifiesTo input (Ok c)
    → c.starved ≡ false → length c.certificate ≤ longest → IsAccepted input c
