-- One more is asked, and at the end no settings meet them.
use Rattle.std.proofs.Common.{false, subst, arith}
use Rattle.std.proofs.lemmas.List.{take_all}
use Rattle.sysmem_merge.specs.Aggregate.{StandsFor}
use Rattle.sysmem_merge.specs.Best.{IsUnmet}
use Rattle.value_sources.specs.Sources.{all_asked}
use Rattle.settings_reasons.proofs.Participants.{all_more, err_means, ok_met}
use Rattle.settings_reasons.proofs.empty.is_unmet.Goals as goal

pub loop-participant-preserved : goal.loop-participant-preserved
loop-participant-preserved c = record {
  stands = subst (StandsFor c.add.new.self c.args.platform.now)
      (all_more c.args.participants.now c.loop-participant.participant-index c.participant-item.result c.loop-participant-test.true c.participant-item.is)
      (c.in_ok-add.ensures.ok c.args.platform.now _ c.loop-participant.invariant.stands);
  few = omega (arith, c.add.ensures.grows, c.loop-participant.invariant.few);
}

pub returns-clause-unmet : goal.returns-clause-unmet
returns-clause-unmet c = λ is. err_means c.best_settings.result (IsUnmet false c.args.platform.now (all_asked c.args.participants.now)) c.is_err.result c.is_err.ensures.value
    (c.best_settings.ensures.none c.args.platform.now _ (subst (λ participants. StandsFor c.loop-participant.asked c.args.platform.now (all_asked participants))
    (take_all c.loop-participant.participant-index c.args.participants.now (omega (arith, c.loop-participant-test.false))) c.loop-participant.invariant.stands)) is

pub returns-clause-met : goal.returns-clause-met
returns-clause-met c = λ isnt few. ok_met c.best_settings.result c.args.platform.now (all_asked c.args.participants.now) c.is_err.result c.is_err.ensures.value
    (c.best_settings.ensures.best c.args.platform.now _ (subst (λ participants. StandsFor c.loop-participant.asked c.args.platform.now (all_asked participants))
    (take_all c.loop-participant.participant-index c.args.participants.now (omega (arith, c.loop-participant-test.false))) c.loop-participant.invariant.stands)) isnt
