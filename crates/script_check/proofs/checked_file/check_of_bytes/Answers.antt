use Rattle.std.proofs.lemmas.Result.{err_from_is_err_and}
use Rattle.serde_json.specs.View.{view}
use Rattle.script_reading.specs.Seen.{script_seen}
use Rattle.script_check.proofs.CheckedLemmas.{is-answered, is-unanswered, unread-bytes, unspelled-bytes}
use Rattle.script_check.proofs.checked_file.check_of_bytes.Goals as goal

pub returns-in_err-value-clause-fault : goal.returns-in_err-value-clause-fault
returns-in_err-value-clause-fault c =
    let failed = err_from_is_err_and c.from_residual.result c.from_residual.ensures.1 in
    unspelled-bytes c.args.script.now c.args.certificate.now c.in_err-value.field-0.0 c.from_residual.result (cc (failed.1, failed.2)) c.in_err-value.ensures

pub returns-in_err-script-clause-fault : goal.returns-in_err-script-clause-fault
returns-in_err-script-clause-fault c =
    let failed = err_from_is_err_and c.from_residual-in_err-script.result c.from_residual-in_err-script.ensures.1 in
    unread-bytes c.args.script.now c.args.certificate.now (view c.in_ok-value.value) c.in_err-script.field-0.0 c.from_residual-in_err-script.result (cc (failed.1, failed.2)) c.in_ok-value.ensures c.in_err-script.ensures

pub returns-clause-answer : goal.returns-clause-answer
returns-clause-answer c =
    is-answered c.args.script.now c.args.certificate.now (view c.in_ok-value.value) (script_seen c.in_ok-script.script) c.answer_to.result c.in_ok-value.ensures c.in_ok-script.ensures c.answer_to.ensures.answer

pub returns-clause-fault : goal.returns-clause-fault
returns-clause-fault c =
    is-unanswered c.args.script.now c.args.certificate.now (view c.in_ok-value.value) (script_seen c.in_ok-script.script) c.answer_to.result c.in_ok-value.ensures c.in_ok-script.ensures c.answer_to.ensures.fault
