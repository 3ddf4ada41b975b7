use Rattle.sysmem_merge.proofs.PairFits.{line_refuses}
use Rattle.sysmem_merge.proofs.pair_walk.fit_in_colour.Goals as goal

pub returns-in-Ok-clause-best : goal.returns-in-Ok-clause-best
returns-in-Ok-clause-best c ds kept sizes = c.in-Ok.ensures.best ds (rw c.requires at (kept.each c.args.colour).bounds) sizes

pub returns-in-Err-clause-none : goal.returns-in-Err-clause-none
returns-in-Err-clause-none c whole cs ds kept sizes =
    line_refuses whole c.args.pair cs ds c.args.kept.now c.args.colour c.in-Err.field-0 c.requires kept (c.in-Err.ensures.line ds (rw c.requires at (kept.each c.args.colour).bounds) sizes)
