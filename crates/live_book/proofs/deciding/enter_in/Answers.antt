-- The parts of a decision are its own.
use Rattle.std.proofs.Common.{inr, subst, sym}
use Rattle.sysmem_alloc.specs.Frozen.{IsStill}
use Rattle.live_book.proofs.deciding.enter_in.Goals as goal

pub returns-clause-fits : goal.returns-clause-fits
returns-clause-fits c t = subst (λ f. IsStill c.args.book.now f) c.into_parts-frozen.ensures.frozen (c.enter_claim.ensures.fits.0 t)

pub returns-clause-stays : goal.returns-clause-stays
returns-clause-stays c off = inr (λ still.
    let did = c.enter_claim.ensures.fits.1 (subst (λ f. IsStill c.args.book.now f) (sym c.into_parts-frozen.ensures.frozen) still) in
    absurd (cc (off, did)))
