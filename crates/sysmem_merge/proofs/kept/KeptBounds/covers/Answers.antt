use Rattle.sysmem_merge.proofs.Covering.{covered}
use Rattle.sysmem_merge.proofs.kept.KeptBounds.covers.Goals as goal

pub returns : goal.returns
returns c o ds es seen left right =
    let first = rw c.in-Merged.is at left in
    let second = rw c.in-Merged-more.is at right in
    rw c.in-Merged.is (covered o ds es c.in-Merged.bounds c.in-Merged-more.more (c.is_tighter.ensures seen) first second)
