use Rattle.serde_json.specs.View.{view}
use Rattle.script_threads.proofs.Spelling.{tells-fault, tells-value}
use Rattle.script_threads.proofs.running.play_bytes.Goals as goal

pub returns-in-Ok-clause-tells : goal.returns-in-Ok-clause-tells
returns-in-Ok-clause-tells g c = tells-value _ (view c.in-Ok.value) c.play_value.result c.in-Ok.ensures c.play_value.ensures.tells

pub returns-in-Err-clause-tells : goal.returns-in-Err-clause-tells
returns-in-Err-clause-tells g c = tells-fault _ c.in-Err.fault c.in-Err.ensures
