use Rattle.sysmem_merge.proofs.Joining.{kept_together}
use Rattle.sysmem_merge.proofs.kept.KeptOffer.join_of.Goals as goal

pub returns : goal.returns
returns c o ds es left right =
    kept_together o ds es c.args.above.now c.args.more.now _ (c.join_of.ensures o ds es left.bounds right.bounds) left right
