use Rattle.sysmem_merge.specs.Offers.{bounds_asked}
use Rattle.sysmem_merge.proofs.Joining.{refused_by_second, refused_first, merged_together, refused_together}
use Rattle.sysmem_merge.proofs.kept.KeptBounds.join.Goals as goal

pub returns-in-Refused : goal.returns-in-Refused
returns-in-Refused c o ds es left right =
    refused_by_second c.in-Refused.field o ds es c.args.self.now c.refuse.new.self (record { first = c.refuse.ensures.first; still = c.refuse.ensures.still }) left (rw c.in-Refused.is at right)

pub returns-in-Err : goal.returns-in-Err
returns-in-Err c o ds es left right =
    let first = rw c.in-Merged-self.is at left in
    let second = rw c.in-Merged.is at right in
    refused_together c.in-Err.field o ds es c.in-Err.ensures.steady (c.in-Err.ensures.line o (bounds_asked o ds) (bounds_asked o es) first.0 second.0)

pub returns-in_default-merge_bounds : goal.returns-in_default-merge_bounds
returns-in_default-merge_bounds c o ds es left right =
    let first = rw c.in-Merged-self.is at left in
    let second = rw c.in-Merged.is at right in
    merged_together o ds es c.in-Merged-self.bounds c.in-Merged.more c.merge_bounds.new.bounds first second
    (c.in_default-merge_bounds.ensures.merged o (bounds_asked o ds) (bounds_asked o es) first.0 second.0)

pub returns-in_default : goal.returns-in_default
returns-in_default c o ds es left right = rw c.in_default.is (refused_first c.in_default.field-0 o ds es (rw c.in_default.is at left))
