-- What was read so far.
use Rattle.std.proofs.Common.{length, take}
use Rattle.offer_fits.specs.Demands.{offer_demands}
use Rattle.sysmem_merge.specs.OfferRead.{IsOfferRead}
use Rattle.verdict_claims.specs.Roll.{asked_by, listed}
use Rattle.sysmem_proof.proofs.asked.read_of.Given as goal

abbrev pub invariant-loop-path : goal.invariant-loop-path
invariant-loop-path l = IsOfferRead l.offer (offer_demands (asked_by (listed l.roll) (take (length l.yielded) l.paths))) l.read
