use Rattle.std.proofs.lemmas.Result.{err_from_is_err_and}
use Rattle.script_run.specs.Certificate.{CertifiesTo, certified_seen}
use Rattle.script_run.specs.Run.{GivesProvedReport}
use Rattle.script_run.proofs.BothLemmas.{both-done, both-part, both-starved}
use Rattle.script_run.proofs.RunLemmas.{refused}
use Rattle.script_run.proofs.running.run_with_proof_leaving.Goals as goal

pub returns-in_err-certified-clause-ran : goal.returns-in_err-certified-clause-ran
returns-in_err-certified-clause-ran g c =
    let failed = err_from_is_err_and c.from_residual-in_err-certified.result c.from_residual-in_err-certified.ensures.1 in
    refused GivesProvedReport _ _ _ certified_seen (CertifiesTo c.in_ok-bytes.bytes.items) _ c.in_err-certified.field-0.0 _ c.in_ok-bytes.bytes.items (λ found is. is) (cc (failed.1, failed.2))
    c.in_ok-bytes.ensures.bytes c.in_err-certified.ensures

pub returns-in_err-write_both-clause-ran : goal.returns-in_err-write_both-clause-ran
returns-in_err-write_both-clause-ran g c =
    let failed = err_from_is_err_and c.from_residual-in_err-write_both.result c.from_residual-in_err-write_both.ensures.1 in
    let fronts = rw c.as_bytes.ensures.value at c.in_err-write_both.ensures.fronts in
    both-part _ _ _ _ _ _ c.in_ok-bytes.bytes.items (certified_seen c.in_ok-certified.certified) c.in_ok-bytes.ensures.bytes c.in_ok-certified.ensures _ (cc (failed.1, failed.2)) fronts

pub returns-then-report-clause-ran : goal.returns-then-report-clause-ran
returns-then-report-clause-ran g c =
    let written = rw c.as_bytes.ensures.value at c.in_ok-write_both.ensures.first in
    both-starved _ _ _ _ _ _ c.in_ok-bytes.bytes.items (certified_seen c.in_ok-certified.certified) c.in_ok-bytes.ensures.bytes c.in_ok-certified.ensures c.if-report.true written c.in_ok-write_both.ensures.then

pub returns-clause-ran : goal.returns-clause-ran
returns-clause-ran g c =
    let written = rw c.as_bytes.ensures.value at c.in_ok-write_both.ensures.first in
    both-done _ _ _ _ _ _ c.in_ok-bytes.bytes.items (certified_seen c.in_ok-certified.certified) c.in_ok-bytes.ensures.bytes c.in_ok-certified.ensures c.if-report.false written c.in_ok-write_both.ensures.then
