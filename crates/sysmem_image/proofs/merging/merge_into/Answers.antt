use Rattle.std.proofs.lemmas.Result.{err_from_is_err_and}
use Rattle.sysmem_image.specs.Entries.{effective}
use Rattle.sysmem_image.proofs.Meets.{merged_meet}
use Rattle.sysmem_image.proofs.Rows.{merged_more}
use Rattle.sysmem_image.proofs.Steps.{above_line}
use Rattle.sysmem_image.proofs.Sound.{above_none}
use Rattle.sysmem_image.proofs.merging.merge_into.Goals as goal

pub returns-in_err-bounds-clause-line : goal.returns-in_err-bounds-clause-line
returns-in_err-bounds-clause-line c = λ es old.
    let p = err_from_is_err_and c.from_residual.result c.from_residual.ensures.1 in
    let above = rw c.effective-more.ensures at c.in_err-bounds.ensures.above in
    rw (p.1, p.2) (above_line _ c.args.offer.now es c.args.bounds.now (effective c.args.offer.now c.args.entry.now) above old)

pub returns-in_err-bounds-clause-above : goal.returns-in_err-bounds-clause-above
returns-in_err-bounds-clause-above c =
    let p = err_from_is_err_and c.from_residual.result c.from_residual.ensures.1 in
    rw (p.1, p.2) (rw c.effective-more.ensures at c.in_err-bounds.ensures.above)

pub returns-in_err-bounds-clause-none : goal.returns-in_err-bounds-clause-none
returns-in_err-bounds-clause-none c = λ es old.
    let p = err_from_is_err_and c.from_residual.result c.from_residual.ensures.1 in
    let above = rw c.effective-more.ensures at c.in_err-bounds.ensures.above in
    rw p.1 (above_none _ c.args.offer.now es c.args.bounds.now (effective c.args.offer.now c.args.entry.now) above old)

pub returns-clause-ok : goal.returns-clause-ok
returns-clause-ok c = λ s.
    let is = rw c.effective-more.ensures at c.in_ok-bounds.ensures.ok in
    merged_meet c.args.bounds.now (effective c.args.offer.now c.args.entry.now) c.in_ok-bounds.field-0 is s

pub returns-clause-merged : goal.returns-clause-merged
returns-clause-merged c = λ es old.
    let is = rw c.effective-more.ensures at c.in_ok-bounds.ensures.ok in
    merged_more c.args.offer.now es c.args.bounds.now (effective c.args.offer.now c.args.entry.now) c.in_ok-bounds.field-0 is c.in_ok-bounds.ensures.in_range old
