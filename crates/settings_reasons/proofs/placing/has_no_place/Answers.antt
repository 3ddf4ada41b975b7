-- One more is asked, and at the end no place is left.
use Rattle.std.proofs.Common.{subst, arith}
use Rattle.std.proofs.lemmas.List.{take_all}
use Rattle.sysmem_memory.specs.Place.{AreDomainsLeft, HasNoPlace}
use Rattle.offer_fits.specs.Demands.{place_demands}
use Rattle.value_sources.specs.Sources.{all_asked}
use Rattle.settings_reasons.proofs.Participants.{demands_more, none_means}
use Rattle.settings_reasons.proofs.placing.has_no_place.Goals as goal

pub loop-participant-preserved : goal.loop-participant-preserved
loop-participant-preserved c = subst (AreDomainsLeft c.add.new.self c.heaps-heaps.result.now)
    (demands_more c.args.participants.now c.loop-participant.participant-index c.participant-item.result c.memory.result.now c.usage.result c.loop-participant-test.true c.participant-item.is c.memory.ensures.memory c.usage.ensures.usage)
    (c.add.ensures _ c.loop-participant.invariant)

pub returns : goal.returns
returns c = λ is. subst (λ heaps. HasNoPlace heaps (place_demands (all_asked c.args.participants.now))) c.heaps-heaps.ensures.heaps
    (none_means c.first_place.result (HasNoPlace c.heaps-heaps.result.now (place_demands (all_asked c.args.participants.now))) c.is_none.result c.is_none.ensures
    (c.first_place.ensures.none _ (subst (λ participants. AreDomainsLeft c.loop-participant.bounds c.heaps-heaps.result.now (place_demands (all_asked participants)))
    (take_all c.loop-participant.participant-index c.args.participants.now (omega (arith, c.loop-participant-test.false))) c.loop-participant.invariant)) is)
