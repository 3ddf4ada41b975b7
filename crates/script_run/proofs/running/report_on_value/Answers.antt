use Rattle.script_run.proofs.Spelling.{value-fault, script-report}
use Rattle.script_run.proofs.running.report_on_value.Goals as goal

pub returns-in-Ok : goal.returns-in-Ok
returns-in-Ok g c =
    script-report _ _ c.in-Ok.script c.report_on_script.result c.in-Ok.ensures c.report_on_script.ensures.report c.report_on_script.ensures.fault

pub returns-in-Err : goal.returns-in-Err
returns-in-Err g c = value-fault _ _ c.in-Err.fault c.in-Err.ensures
