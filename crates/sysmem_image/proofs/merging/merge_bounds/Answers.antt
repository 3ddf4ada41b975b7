use Rattle.std.proofs.lemmas.Result.{err_from_is_err_and}
use Rattle.sysmem_image.proofs.Joined.{merged_both, above_both}
use Rattle.sysmem_image.proofs.Meets.{merged_meet}
use Rattle.sysmem_image.proofs.merging.merge_bounds.Goals as goal

pub returns-in_err-bounds-clause-line : goal.returns-in_err-bounds-clause-line
returns-in_err-bounds-clause-line c = λ o es fs left right.
    let p = err_from_is_err_and c.from_residual.result c.from_residual.ensures.1 in
    rw (p.1, p.2) (above_both _ o es fs c.args.bounds.now c.args.more.now c.in_err-bounds.ensures.above left right)

pub returns-in_err-bounds-clause-above : goal.returns-in_err-bounds-clause-above
returns-in_err-bounds-clause-above c =
    let p = err_from_is_err_and c.from_residual.result c.from_residual.ensures.1 in
    rw (p.1, p.2) c.in_err-bounds.ensures.above

pub returns-clause-ok : goal.returns-clause-ok
returns-clause-ok c = λ s. merged_meet c.args.bounds.now c.args.more.now c.in_ok-bounds.field-0 c.in_ok-bounds.ensures.ok s

pub returns-clause-merged : goal.returns-clause-merged
returns-clause-merged c = λ o es fs left right.
    merged_both o es fs c.args.bounds.now c.args.more.now c.in_ok-bounds.field-0 c.in_ok-bounds.ensures.ok c.in_ok-bounds.ensures.in_range left right
