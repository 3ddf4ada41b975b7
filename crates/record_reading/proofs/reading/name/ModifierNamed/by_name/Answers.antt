use Rattle.record_reading.proofs.Names.{modifier_found}
use Rattle.record_reading.proofs.reading.name.ModifierNamed.by_name.Goals as goal

pub returns : goal.returns
returns c = modifier_found _ _ c.from_name.ensures
