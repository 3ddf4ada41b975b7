use Rattle.record_reading.proofs.Names.{format_found}
use Rattle.record_reading.proofs.reading.name.PixelFormatNamed.by_name.Goals as goal

pub returns : goal.returns
returns c = format_found _ _ c.from_name.ensures
