use Rattle.std.proofs.lemmas.Result.{err_from_is_err_and}
use Rattle.std.proofs.Common.{None}
use Rattle.script_replay.specs.Outcome.{RunsTo, report_seen}
use Rattle.script_run.specs.Run.{GivesReport}
use Rattle.script_run.proofs.RunLemmas.{ran-part, refused}
use Rattle.script_run.proofs.running.run_leaving.Goals as goal

pub returns-in_err-report-clause-ran : goal.returns-in_err-report-clause-ran
returns-in_err-report-clause-ran g c =
    let failed = err_from_is_err_and c.from_residual-in_err-report.result c.from_residual-in_err-report.ensures.1 in
    refused GivesReport _ _ None report_seen (RunsTo c.in_ok-bytes.bytes.items) _ c.in_err-report.field-0.0 _ c.in_ok-bytes.bytes.items (λ found is. is) (cc (failed.1, failed.2)) c.in_ok-bytes.ensures.bytes
    c.in_err-report.ensures

pub returns-in_err-write_fully-clause-ran : goal.returns-in_err-write_fully-clause-ran
returns-in_err-write_fully-clause-ran g c =
    let failed = err_from_is_err_and c.from_residual-in_err-write_fully.result c.from_residual-in_err-write_fully.ensures.1 in
    let front = rw c.as_bytes.ensures.value at c.in_err-write_fully.ensures.front in
    ran-part _ _ _ _ c.in_ok-bytes.bytes.items (report_seen c.in_ok-report.report) c.in_ok-bytes.ensures.bytes c.in_ok-report.ensures _ (cc (failed.1, failed.2)) front
