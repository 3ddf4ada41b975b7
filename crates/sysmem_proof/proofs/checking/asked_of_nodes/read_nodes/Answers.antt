-- One participant more is read.
use Rattle.std.proofs.Common.{sym, ◌∙◌, ap, subst, arith}
use Rattle.std.proofs.lemmas.List.{map-append}
use Rattle.offer_fits.specs.Demands.{offer_demand, offer_demands}
use Rattle.sysmem_merge.specs.OfferRead.{IsOfferRead}
use Rattle.sysmem_proof.proofs.Asking.{asked_more, asked_whole}
use Rattle.sysmem_proof.proofs.checking.asked_of_nodes.read_nodes.Goals as goal

pub loop-node-preserved : goal.loop-node-preserved
loop-node-preserved c =
    let is = asked_more c.args.tree.now.nodes c.args.nodes.now c.loop-node.node-index _ _ c.loop-node-test.true c.requires c.node-item.is c.constraints_of.ensures in
    subst (λ ds. IsOfferRead c.args.offer.now ds c.add_read.new.read) (sym (ap offer_demands is ∙ map-append offer_demand _ _)) (c.add_read.ensures c.args.offer.now _ c.loop-node.invariant)

pub returns : goal.returns
returns c = subst (λ ps. IsOfferRead c.args.offer.now (offer_demands ps) c.loop-node.read)
    (asked_whole c.args.tree.now.nodes c.args.nodes.now c.loop-node.node-index (omega (arith, c.loop-node-test.false))) c.loop-node.invariant
