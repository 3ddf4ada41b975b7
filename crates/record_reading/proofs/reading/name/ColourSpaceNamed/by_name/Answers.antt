use Rattle.record_reading.proofs.Names.{colour_found}
use Rattle.record_reading.proofs.reading.name.ColourSpaceNamed.by_name.Goals as goal

pub returns : goal.returns
returns c = colour_found _ _ c.from_name.ensures
