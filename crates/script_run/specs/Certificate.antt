-- The certificate of a script's decisions.
use Rattle.std.specs.Prelude.{◌≡◌, ℕ, List, map, Bool, Result, Ok, Err}
use Rattle.certificate_pieces.specs.Texts.{pieces_text}
use Rattle.certificate_text.specs.Certificate.{certificate_text}
use Rattle.certificate_text.specs.Told.{decision_data}
use Rattle.serde_json.specs.Data.{Data}
use Rattle.serde_json.specs.Written.{compact_text}
use Rattle.negotiation_inputs.specs.Platform.{PlatformFacts}
use Rattle.script_reading.specs.declared.fault.ScriptFault.{ScriptFault}
use Rattle.script_run.specs.declared.running.CertifiedReport.{CertifiedReport}
use Rattle.script_replay.specs.Outcome.{RunsTo, RunsWith}
use Rattle.script_replay.specs.Proving.{AreProved}
use Rattle.script_replay.specs.Report.{Certified}
use Rattle.std.specs.String.{string_bytes}

-- decisions as data, each with its path
abbrev pub data_of : PlatformFacts → List Certified → List Data
data_of platform decisions = map (λ c. decision_data platform c.0 c.1) decisions

-- the text of each
abbrev pub texts_of : PlatformFacts → List Certified → List (List ℕ)
texts_of platform decisions = map (λ c. compact_text (decision_data platform c.0 c.1)) decisions

-- their text as a certificate
abbrev pub certificate_of : PlatformFacts → List Certified → List ℕ
certificate_of platform decisions = certificate_text (data_of platform decisions)

-- a text is that of the decisions, and each that has a claim has its proof
pub record IsCertifiedBy (certificate : List ℕ) (platform : PlatformFacts)
    (decisions : List Certified) : Type 0 where
  pub text : certificate ≡ certificate_of platform decisions
  pub proved : AreProved decisions

-- a report, the certificate of its decisions, and whether memory was refused
pub record CertifiedFacts : Type 0 where
  pub text : List ℕ
  pub certificate : List ℕ
  pub starved : Bool

-- what the program's stands for
abbrev pub certified_seen : CertifiedReport → CertifiedFacts
certified_seen c =
    record {
      text = string_bytes c.report.text;
      certificate = pieces_text c.certificate;
      starved = c.report.starved;
    }

-- what the bytes of a script give: a fault of theirs, or a report with its certificate
abbrev pub CertifiesTo : List ℕ → Result CertifiedFacts ScriptFault → Type 0
CertifiesTo input (Ok c) = RunsWith (IsCertifiedBy c.certificate) input
    (Ok (record { text = c.text; starved = c.starved }))
CertifiesTo input (Err fault) = RunsTo input (Err fault)
