-- Those so far.
use Rattle.std.proofs.Common.{take}
use Rattle.offer_fits.specs.Demands.{offer_demands}
use Rattle.sysmem_merge.specs.OfferRead.{IsOfferRead}
use Rattle.flat_negotiation.proofs.blaming.read_of.Given as goal

abbrev pub invariant-loop-index : goal.invariant-loop-index
invariant-loop-index l = IsOfferRead l.offer (offer_demands (take l.index l.asked)) l.read
