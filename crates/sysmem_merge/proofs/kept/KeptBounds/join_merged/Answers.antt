use Rattle.sysmem_merge.proofs.kept.KeptBounds.join_merged.Goals as goal

pub returns-then-covers : goal.returns-then-covers
returns-then-covers c o ds es left right = c.covers.ensures o ds es c.if-covers.true left right
