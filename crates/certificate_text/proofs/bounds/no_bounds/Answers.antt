use Rattle.certificate_text.proofs.BoundsLemmas.{own_is_no_bounds}
use Rattle.certificate_text.proofs.bounds.no_bounds.Goals as goal

pub returns : goal.returns
returns c = own_is_no_bounds _ c.of.ensures.own
