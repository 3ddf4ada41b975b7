-- The book under the lock is the one that was asked.
use Rattle.std.proofs.Common.{subst}
use Rattle.std.specs.Prelude.{◌↔◌, IsTrue}
use Rattle.sysmem_alloc.specs.Frozen.{IsStill}
use Rattle.sysmem_room.proofs.room.Room.conclude.Goals as goal

pub decide-requires-clause-still : goal.decide-requires-clause-still
decide-requires-clause-still g c = subst (λ b. IsStill b c.args.frozen) c.self.view_is (c.fits-fits.ensures.0 c.if-fits.true)

pub returns-then-fits-clause-fits : goal.returns-then-fits-clause-fits
returns-then-fits-clause-fits g c = subst (λ b. IsTrue c.fits-fits.result ↔ IsStill b c.args.frozen) c.self.view_is c.fits-fits.ensures

pub returns-else-fits-clause-fits : goal.returns-else-fits-clause-fits
returns-else-fits-clause-fits g c = subst (λ b. IsTrue c.fits-fits.result ↔ IsStill b c.args.frozen) c.self.view_is c.fits-fits.ensures
