use Rattle.serde_json.specs.View.{view}
use Rattle.record_reading.proofs.Bounds.{read_by_numbers}
use Rattle.record_reading.proofs.reading.bounds.bounds_of.Goals as goal

pub returns : goal.returns
returns c = read_by_numbers (view c.args.object.now) _ c.stated_bounds.ensures
