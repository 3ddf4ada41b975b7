-- A report's certificate is accepted by a check.
use Rattle.std.proofs.Common.{◌≡◌, ℕ, ◌≤◌, List, [], ◌∷◌, length, Bool, false, Option, Some, None, Result, Ok, Err, refl, sym, ap, subst}
use Rattle.std.specs.List.{AllByRecursion, AllZip}
use Rattle.std.specs.Io.KnownBytes.{Appends}
use Rattle.std.proofs.lemmas.List.{length-map}
use Rattle.std.proofs.lemmas.List.Elements.{recursion_from_All}
use Rattle.certificate_text.specs.Said.{claim_said}
use Rattle.certificate_text.specs.Told.{decision_data}
use Rattle.serde_json.specs.Data.{array}
use Rattle.serde_json.specs.View.{items_of}
use Rattle.script_reading.proofs.CallerLemmas.{script_ids, script_platform}
use Rattle.script_reading.specs.Script.{ScriptFacts}
use Rattle.script_reading.specs.Text.{IsJson, longest}
use Rattle.verdict_claims.specs.declared.certificate.Claim.{Claim}
use Rattle.negotiation_inputs.specs.Platform.{PlatformFacts}
use Rattle.script_replay.specs.Proving.{IsProved}
use Rattle.script_run.specs.Certificate.{IsCertifiedBy, certificate_of, data_of}
use Rattle.script_check.specs.Checked.{AreTaken, IsOf, accepts}
use Rattle.script_check.specs.CheckedFile.{ChecksTo, EndsInYes, HasChecked, IsListOf, answer_text}
use Rattle.script_check.specs.Headline.{HasClaim}
use Rattle.script_check.specs.Laws.{AreReadBack, CertificatesAreAccepted, CertificatesReadBack, CertifiedIsReport, FaultIsAlone, OneCheck, claim_told}
use Rattle.script_replay.specs.Outcome.{ReportFacts, RunsTo}
use Rattle.script_replay.specs.Report.{Certified, IsReported}
use Rattle.script_check.specs.declared.checked_file.CheckAnswer.TheVariants as answers
use Rattle.script_run.specs.declared.fault.RunFault.{RunFault}
use Rattle.script_run.specs.declared.fault.RunFault.TheVariants as faults
use Rattle.script_run.specs.declared.running.RunOutcome.{RunOutcome}
use Rattle.script_run.specs.declared.running.RunOutcome.TheVariants as ended
use Rattle.script_check.proofs.Reported.{each_claimed, input_reports}

-- ---- the objects of a certificate make the claims of its decisions

module _ (platform : PlatformFacts) where
  -- a decision is read of its object
  abbrev IsRead : Certified → Type 0
  IsRead c = claim_said platform (decision_data platform c.0 c.1) ≡ Some (c.0, claim_told c.1)

  is_of : (path : List ℕ) (o : Option Claim) → IsRead (path, o) → HasClaim (path, o) → IsProved (path, o) → IsOf platform (decision_data platform path o) (path, o)
  is_of path (Some claim) read there proved = record { claim = claim; says = read; taken = refl; proved = proved }
  is_of path None read there proved = absurd (cc)

  are_of : (cs : List Certified) → AllByRecursion IsRead cs → AllByRecursion HasClaim cs → AllByRecursion IsProved cs → AllZip (IsOf platform) (data_of platform cs) cs
  are_of [] read there proved = tt
  are_of (c ∷ cs) read there proved = (is_of c.0 c.1 read.0 there.0 proved.0, are_of cs read.1 there.1 proved.1)

-- the objects of a report's certificate are taken
taken_of : (script : ScriptFacts) (certificate text : List ℕ) (report : IsReported script.platform script.calls (IsCertifiedBy certificate script.platform) text false)
    → AreReadBack script.platform report.decisions → AreTaken script.platform script.calls (data_of script.platform report.decisions)
taken_of script certificate text report back = record {
  text = text;
  report = record {
    decisions = report.decisions;
    report = report.report;
    gave = are_of script.platform report.decisions (recursion_from_All (IsRead script.platform) report.decisions back.each)
        (each_claimed 1 _ report.report.last script.calls report.report.lines report.decisions report.report.goes (sym report.report.memory))
        (recursion_from_All IsProved report.decisions report.gave.proved);
  };
}

-- the certificate is their list
list_of : (platform : PlatformFacts) (certificate : List ℕ) (cs : List Certified) → certificate ≡ certificate_of platform cs → length certificate ≤ longest → AreReadBack platform cs
    → IsListOf certificate (data_of platform cs)
list_of platform certificate cs is short back = record {
  value = array (items_of (data_of platform cs));
  spells = record { short = short; json = subst (λ ts. IsJson ts (array (items_of (data_of platform cs)))) (sym is) back.spelled };
  list = refl;
}

-- ---- what a check answers

module _ (one : OneCheck) (alone : FaultIsAlone) (input certificate : List ℕ) (many : ℕ) (checks : ChecksTo input certificate answers.Yes (answer_text answers.Yes many))
    (report : ReportFacts) (runs : RunsTo input (Ok report)) where
  -- no check ends but in yes
  ends_in_yes : (result : Result RunOutcome RunFault) (before after : Option (List ℕ)) → HasChecked result (Some input) (Some certificate) before after → EndsInYes many before after result
  ends_in_yes (Ok ended.Done) before after h =
      let w = h.yes refl in
      subst (λ text. Appends before after text) (one input certificate answers.Yes answers.Yes w.text (answer_text answers.Yes many) w.report checks).1 w.written
  ends_in_yes (Ok ended.CheckedNo) before after h =
      let w = h.no refl in
      let same = (one input certificate (answers.No w.report.0) answers.Yes w.text (answer_text answers.Yes many) w.report.1 checks).0 in
      absurd (cc)
  ends_in_yes (Ok ended.MemoryRefused) before after h = absurd (h.fed refl)
  ends_in_yes (Err faults.Read) before after h = tt
  ends_in_yes (Err faults.Write) before after h = tt
  ends_in_yes (Err faults.NoMemory) before after h = tt
  ends_in_yes (Err (faults.Script fault)) before after h =
      let both : Ok report ≡ Err fault = alone input fault (Ok report) (h.script fault refl) runs in
      absurd (cc)
  ends_in_yes (Err faults.Proof) before after h = absurd ((h.proof_refused refl).none checks.holds.objects checks.holds.lists)
  ends_in_yes (Err (faults.Audit found)) before after h = absurd (h.no_audit found refl)

pub certificates_are_accepted : CertificatesReadBack → OneCheck → CertifiedIsReport → FaultIsAlone → CertificatesAreAccepted
certificates_are_accepted read_back one without alone input c certifies fed short =
    let r = input_reports input c _ refl certifies in
    let platform = r.script.platform in
    let report : IsReported platform r.script.calls (IsCertifiedBy c.certificate platform) c.text false =
    subst (λ (b : Bool). IsReported platform r.script.calls (IsCertifiedBy c.certificate platform) c.text b) fed r.report in
    let back = read_back platform r.script.calls c.text report.decisions false (script_platform r.reads.value r.script r.reads.says) (script_ids r.reads.value r.script r.reads.says) report.report report.gave.proved in
    let objects = data_of platform report.decisions in
    let many : length objects ≡ length report.decisions = length-map report.decisions (λ (d : Certified). decision_data platform d.0 d.1) in
    let checks : ChecksTo input c.certificate answers.Yes (answer_text answers.Yes (length report.decisions)) = record {
      script = r.script;
      reads = r.reads;
      holds = record {
        objects = objects;
        lists = list_of platform c.certificate report.decisions report.gave.text short back;
        holds = accepts (taken_of r.script c.certificate c.text report back);
        says = ap (answer_text answers.Yes) (sym many);
      };
    } in
    record {
      script = r.script;
      reads = r.reads;
      report = report;
      checks = checks;
      ends = ends_in_yes one alone input c.certificate (length report.decisions) checks (record { text = c.text; starved = c.starved }) (without input (Ok c) certifies);
    }
