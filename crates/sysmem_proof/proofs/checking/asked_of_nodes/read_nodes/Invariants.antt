-- What was read so far.
use Rattle.std.proofs.Common.{take}
use Rattle.offer_fits.specs.Demands.{offer_demands}
use Rattle.sysmem_merge.specs.OfferRead.{IsOfferRead}
use Rattle.verdict_claims.specs.Asked.{asked_in}
use Rattle.sysmem_proof.proofs.checking.asked_of_nodes.read_nodes.Given as goal

abbrev pub invariant-loop-node : goal.invariant-loop-node
invariant-loop-node l = IsOfferRead l.offer (offer_demands (asked_in l.tree.nodes (take l.node-index l.nodes))) l.read
