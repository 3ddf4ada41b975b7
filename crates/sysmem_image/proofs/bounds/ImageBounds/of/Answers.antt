use Rattle.sysmem_image.proofs.Rows.{own_merged}
use Rattle.sysmem_image.proofs.bounds.ImageBounds.of.Goals as goal

pub returns-clause-merged : goal.returns-clause-merged
returns-clause-merged c = own_merged c.args.offer.now c.own_bounds.result c.own_bounds.ensures.own c.own_bounds.ensures.in_range
