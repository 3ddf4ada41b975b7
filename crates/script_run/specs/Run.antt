-- What a run has done, by how it ended.
use Rattle.std.specs.Prelude.{◌≡◌, ◌≢◌, ◌↔◌, ℕ, List, [], Bool, true, false, Option, None}
use Rattle.std.specs.Prelude.{Result, Ok, Err, IfSome}
use Rattle.std.specs.Io.KnownBytes.{Appends}
use Rattle.byte_transfer.specs.Transfer.{WritesFront}
use Rattle.script_reading.specs.declared.fault.ScriptFault.{ScriptFault}
use Rattle.script_run.specs.declared.fault.RunFault.{RunFault}
use Rattle.script_run.specs.declared.fault.Disagreement.{Disagreement}
use Rattle.script_run.specs.declared.fault.RunFault.TheVariants.{Write, Script, Proof, Audit}
use Rattle.script_run.specs.declared.running.RunOutcome.{RunOutcome}
use Rattle.script_run.specs.declared.running.RunOutcome.TheVariants.{Done, MemoryRefused, CheckedNo}
use Rattle.script_run.specs.Certificate.{CertifiesTo}
use Rattle.script_replay.specs.Outcome.{RunsTo}

-- ---- texts that are written

-- a text was written, and then perhaps a second one to another writer, of which this is said. Where
-- there is no second writer, nothing is known of what it holds
pub record Writes (says : List ℕ → List ℕ → Type 0)
    (before after proof_before proof_after : Option (List ℕ)) : Type 0 where
  pub text : List ℕ
  pub certificate : List ℕ
  pub report : says text certificate
  pub written : Appends before after text
  pub proved : Appends proof_before proof_after certificate

-- a prefix of a text was written and nothing of another, or all of it and a prefix of the other
pub data WritesFronts (before after other_before other_after : Option (List ℕ))
    (text other : List ℕ) : Type 0 where
  in_first : WritesFront before after text → Appends other_before other_after []
      → WritesFronts before after other_before other_after text other
  in_other : Appends before after text → WritesFront other_before other_after other
      → WritesFronts before after other_before other_after text other

-- only a prefix of both was written
pub record WritesPart (says : List ℕ → List ℕ → Type 0)
    (before after proof_before proof_after : Option (List ℕ)) : Type 0 where
  pub text : List ℕ
  pub certificate : List ℕ
  pub report : says text certificate
  pub fronts : WritesFronts before after proof_before proof_after text certificate

-- one text alone was written, or a prefix of it
abbrev pub WritesText : (List ℕ → Type 0) → Option (List ℕ) → Option (List ℕ) → Type 0
WritesText says before after = Writes (λ text _. says text) before after None None

abbrev pub WritesTextPart : (List ℕ → Type 0) → Option (List ℕ) → Option (List ℕ) → Type 0
WritesTextPart says before after = WritesPart (λ text _. says text) before after None None

-- ---- how a run ends

-- the texts that the bytes of a script give, in which memory was refused or not
abbrev pub GivesTexts : Type 1
GivesTexts = List ℕ → Bool → List ℕ → List ℕ → Type 0

-- a run that writes such texts: what the reader had, where it tells it, and what each writer held
-- before and after, where it tells that
pub record RanFor (gives : GivesTexts) (result : Result RunOutcome RunFault)
    (had before after proof_before proof_after : Option (List ℕ)) : Type 0 where
  pub done : result ≡ Ok Done
      → IfSome had (λ input. Writes (gives input false) before after proof_before proof_after)
  pub starved : result ≡ Ok MemoryRefused
      → IfSome had (λ input. Writes (gives input true) before after proof_before proof_after)
  pub unchecked : result ≢ Ok CheckedNo
  pub no_proof : result ≢ Err Proof
  pub no_audit : (found : Disagreement) → result ≢ Err (Audit found)
  pub refused : (fault : ScriptFault) → result ≡ Err (Script fault)
      → IfSome had (λ input. RunsTo input (Err fault))
  pub front : result ≡ Err Write → IfSome had (λ input. WritesPart
      (λ text other. (starved : Bool) × gives input starved text other)
      before after proof_before proof_after)
  pub unwritten : (fault : RunFault) → result ≡ Err fault → fault ≢ Write
      → Appends before after [] × Appends proof_before proof_after []

-- the report alone
abbrev pub GivesReport : GivesTexts
GivesReport input starved text _ = RunsTo input (Ok (record { text = text; starved = starved }))

-- the report, and the certificate of its decisions
abbrev pub GivesProvedReport : GivesTexts
GivesProvedReport input starved text certificate =
    CertifiesTo input (Ok (record { text = text; certificate = certificate; starved = starved }))

-- a run that writes its report
abbrev pub Ran : Result RunOutcome RunFault → Option (List ℕ) → Option (List ℕ) → Option (List ℕ)
    → Type 0
Ran result had before after = RanFor GivesReport result had before after None None

-- a run that writes its report, and then a certificate
abbrev pub RanWithProof : Result RunOutcome RunFault
    → (had before after proof_before proof_after : Option (List ℕ)) → Type 0
RanWithProof result had before after proof_before proof_after =
    RanFor GivesProvedReport result had before after proof_before proof_after

-- ---- failures

-- two counts
abbrev pub both_counts : ℕ → ℕ → ℕ × ℕ
both_counts a b = (a, b)

-- the fault is answered exactly where the count of failures changed, and else the count stays
pub record IsCausedBy {X : Type 0} (fault : Type 0) (old new : X) : Type 0 where
  pub cause : fault ↔ (new ≢ old)
  pub kept : (¬ fault) → new ≡ old
