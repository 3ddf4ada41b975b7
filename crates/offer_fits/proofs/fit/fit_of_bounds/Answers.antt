-- The size is the corner's bytes, the least size or 1; else a line of bounds or size is true.
use Rattle.std.proofs.Common.{arith}
use Rattle.std.proofs.lemmas.Result.{err_from_is_err_and}
use Rattle.offer_fits.specs.Offers.{bounds_asked}
use Rattle.offer_fits.proofs.Fits.{best_from, bounds_line, size_line}
use Rattle.offer_fits.proofs.fit.fit_of_bounds.Goals as goal

pub returns-in_err-corner-clause-line : goal.returns-in_err-corner-clause-line
returns-in_err-corner-clause-line c = λ ds merged listed sizes.
    let p = err_from_is_err_and c.from_residual.result c.from_residual.ensures.1 in
    rw (p.1, p.2) (bounds_line _ c.args.offer.now ds (c.in_err-corner.ensures.line (bounds_asked c.args.offer.now ds) merged).line)

pub returns-then-bytes-from-clause-line : goal.returns-then-bytes-from-clause-line
returns-then-bytes-from-clause-line c = λ ds merged listed sizes.
    size_line c.args.offer.now ds c.args.bounds.now c.in_ok-corner.corner c.args.least_size c.args.greatest_size merged sizes c.in_ok-corner.ensures.corner (omega arith)

pub returns-clause-best : goal.returns-clause-best
returns-clause-best c = λ ds merged listed sizes.
    rw c.max-bytes.ensures (rw c.max.ensures (rw c.from.ensures
    (best_from c.args.offer.now ds c.args.bounds.now c.in_ok-corner.corner c.args.least_size c.args.greatest_size (merged, listed) sizes c.in_ok-corner.ensures.corner c.in_ok-corner.ensures.required (omega arith) (omega arith))))
