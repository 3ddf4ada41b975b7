use Rattle.serde_json.specs.View.{view}
use Rattle.script_run.proofs.Spelling.{runs-fault, runs-value}
use Rattle.script_run.proofs.running.report_on.Goals as goal

pub returns-in-Ok : goal.returns-in-Ok
returns-in-Ok g c = runs-value _ _ (view c.in-Ok.value) c.report_on_value.result c.in-Ok.ensures c.report_on_value.ensures

pub returns-in-Err : goal.returns-in-Err
returns-in-Err g c = runs-fault _ _ c.in-Err.fault c.in-Err.ensures
