use Rattle.certificate_text.proofs.BoundsLemmas.{read_by_values}
use Rattle.certificate_text.proofs.bounds.bounds_of.Goals as goal

pub returns : goal.returns
returns c = read_by_values _ _ c.values_of.ensures
