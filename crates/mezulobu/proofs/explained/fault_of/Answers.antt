-- Bytes that spell a value.
use Rattle.serde_json.specs.View.{view}
use Rattle.mezulobu.proofs.Explanations.{fault_spelled}
use Rattle.mezulobu.proofs.explained.fault_of.Goals as goal

pub returns-in-Ok : goal.returns-in-Ok
returns-in-Ok c = fault_spelled c.args.script.now (view c.in-Ok.value) c.fault_in.result c.in-Ok.ensures c.fault_in.ensures
