-- A report with a certificate is a report.
use Rattle.std.proofs.Common.{Ok, Err}
use Rattle.script_run.proofs.CallerLemmas.{runs-so}
use Rattle.script_run.specs.Certificate.{IsCertifiedBy}
use Rattle.script_replay.specs.Outcome.{ReportFacts, anyhow}
use Rattle.script_check.specs.Laws.{CertifiedIsReport}

pub certified_is_report : CertifiedIsReport
certified_is_report input (Ok certified) said =
    let report : ReportFacts = record { text = certified.text; starved = certified.starved } in
    runs-so (IsCertifiedBy certified.certificate) anyhow input (Ok report) (λ platform cs g. tt) said
certified_is_report input (Err fault) said = said
