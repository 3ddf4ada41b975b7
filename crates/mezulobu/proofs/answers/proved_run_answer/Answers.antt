-- A report with its certificate, or a script that is refused.
use Rattle.std.proofs.Common.{refl}
use Rattle.mezulobu.proofs.Sayings.{certified_told, proved_refused}
use Rattle.mezulobu.proofs.answers.proved_run_answer.Goals as goal

pub returns-in_ok-bytes_of-in-Ok : goal.returns-in_ok-bytes_of-in-Ok
returns-in_ok-bytes_of-in-Ok c =
    let told = c.answer_of_certified.ensures in
    certified_told c.args.script.now c.in-Ok.field-0 c.in-Ok.field-0.report c.in-Ok.field-0.certificate c.in_ok-bytes_of-in-Ok.field-0.items c.answer_of_certified.result
    c.in-Ok.ensures refl refl c.in_ok-bytes_of-in-Ok.ensures told.fed told.text told.certificate told.status

pub returns-in_ok-fault_words-in-Err-Refused : goal.returns-in_ok-fault_words-in-Err-Refused
returns-in_ok-fault_words-in-Err-Refused c =
    proved_refused c.args.script.now c.in_ok-fault_words-in-Err-Refused.field-0.items c.new.result.items c.in-Err-Refused.fault
    (rw c.in-Err-Refused.field-0-is at c.in-Err-Refused.ensures) c.in_ok-fault_words-in-Err-Refused.ensures c.new.ensures.items
