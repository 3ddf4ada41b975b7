use Rattle.certificate_text.proofs.Names.{field_found}
use Rattle.certificate_text.proofs.line.field_of.Goals as goal

pub returns : goal.returns
returns c = field_found _ _ c.from_name.ensures
