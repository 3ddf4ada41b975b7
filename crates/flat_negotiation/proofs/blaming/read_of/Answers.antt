-- One more demand, and at the end those of all.
use Rattle.std.proofs.Common.{◌∷◌, [], take, subst, sym}
use Rattle.std.proofs.lemmas.List.{take_all, map-append}
use Rattle.offer_fits.specs.Demands.{offer_demand, offer_demands}
use Rattle.sysmem_merge.specs.OfferRead.{IsOfferRead}
use Rattle.flat_negotiation.proofs.Lists.{so-more}
use Rattle.flat_negotiation.proofs.blaming.read_of.Goals as goal

pub loop-index-preserved : goal.loop-index-preserved
loop-index-preserved c =
    let asked = c.args.asked.now in
    let offer = c.args.offer.now in
    let one = c.index-asked-index.result in
    let demands = map-append offer_demand (take c.loop-index.index asked) (one ∷ []) in
    so-more (λ l. IsOfferRead offer (offer_demands l) c.add.new.self) asked c.loop-index.index one c.loop-index-test.true c.index-asked-index.is
    (subst (λ l. IsOfferRead offer l c.add.new.self) (sym demands) (c.add.ensures offer _ c.loop-index.invariant))

pub returns : goal.returns
returns c = subst (λ l. IsOfferRead c.args.offer.now (offer_demands l) c.loop-index.read) (take_all c.loop-index.index c.args.asked.now c.loop-index-test.false) c.loop-index.invariant
