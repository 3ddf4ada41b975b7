-- One line more, if its place is there.
use Rattle.std.proofs.lemmas.Result.{err_from_is_err_and}
use Rattle.verdict_claims.specs.Roll.{listed}
use Rattle.sysmem_proof.proofs.PlacesFirst.{none_there, missing_there, fault_there, told_there}
use Rattle.sysmem_proof.proofs.checking.places_before.line_fault.Goals as goal

pub returns-then-not-is_there : goal.returns-then-not-is_there
returns-then-not-is_there c = λ told are. none_there (listed c.args.roll.now) told c.args.lines.now c.args.many c.args.is_there c.args.place c.args.heap.now c.if-not-is_there.true are

pub returns-then-many-lines : goal.returns-then-many-lines
returns-then-many-lines c = λ told are more. missing_there (listed c.args.roll.now) told c.args.lines.now c.args.many c.args.is_there c.args.place c.args.heap.now c.if-not-is_there.false are c.if-many-lines.true more

pub returns-in_err-place_fault : goal.returns-in_err-place_fault
returns-in_err-place_fault c = λ told are.
    let p = err_from_is_err_and c.from_residual.result c.from_residual.ensures.1 in
    rw (p.1, p.2) (λ more. fault_there (listed c.args.roll.now) told c.args.lines.now c.args.many c.args.is_there c.args.place c.args.heap.now c.if-not-is_there.false are
    c.index-lines-many.result _ c.if-many-lines.false c.index-lines-many.is c.in_err-place_fault.ensures more)

pub returns : goal.returns
returns c = λ told are. told_there (listed c.args.roll.now) told c.args.lines.now c.args.many c.args.is_there c.args.place c.args.heap.now c.if-not-is_there.false are
    c.index-lines-many.result c.if-many-lines.false c.index-lines-many.is c.in_ok-place_fault.ensures
