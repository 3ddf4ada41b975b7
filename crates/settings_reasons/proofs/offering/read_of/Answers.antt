-- One more demand, and at the end those of all.
use Rattle.std.proofs.Common.{subst}
use Rattle.std.proofs.lemmas.List.{take_all}
use Rattle.offer_fits.specs.Demands.{offer_demand, offer_demands}
use Rattle.sysmem_merge.specs.OfferRead.{IsOfferRead}
use Rattle.value_sources.specs.Sources.{all_asked}
use Rattle.settings_reasons.proofs.Participants.{asked_more}
use Rattle.settings_reasons.proofs.offering.read_of.Goals as goal

pub loop-participant-preserved : goal.loop-participant-preserved
loop-participant-preserved c =
    let demands = asked_more offer_demand c.args.participants.now c.loop-participant.participant-index c.participant-item.result c.loop-participant-test.true c.participant-item.is in
    subst (λ l. IsOfferRead c.args.offer.now l c.add.new.self) demands (c.add.ensures c.args.offer.now _ c.loop-participant.invariant)

pub returns : goal.returns
returns c = subst (λ l. IsOfferRead c.args.offer.now (offer_demands (all_asked l)) c.loop-participant.read) (take_all c.loop-participant.participant-index c.args.participants.now c.loop-participant-test.false) c.loop-participant.invariant
