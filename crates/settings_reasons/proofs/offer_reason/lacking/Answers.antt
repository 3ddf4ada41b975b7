-- One more who lacks it, or nobody more.
use Rattle.std.proofs.Common.{◌≡◌, sym, ◌∙◌}
use Rattle.settings_reasons.specs.True.{lacks}
use Rattle.settings_reasons.proofs.Participants.{one_kept, one_left}
use Rattle.settings_reasons.proofs.offer_reason.lacking.Goals as goal
use Rattle.settings_reasons.proofs.offer_reason.lacking.Goals.{then-lacks+in_ok-push, else-lacks}

pub loop-participant-preserved : goal.loop-participant-preserved
loop-participant-preserved c =
    let test = lacks c.args.lack c.args.offer.now in
    let same : test c.participant-item.result.asked.now ≡ c.lacks.result = sym c.lacks.ensures in
    elim c.if-lacks.branch [
      | then-lacks+in_ok-push w ↦ rw w.those-is (one_kept test c.args.participants.now c.loop-participant.those.items _ c.loop-participant.participant-index c.participant-item.result c.loop-participant-test.true c.participant-item.is (same ∙ w.if-lacks.true) w.in_ok-push.ensures.items c.loop-participant.invariant)
      | else-lacks w ↦ rw w.those-is (one_left test c.args.participants.now c.loop-participant.those.items c.loop-participant.participant-index c.participant-item.result c.loop-participant-test.true c.participant-item.is (same ∙ w.if-lacks.false) c.loop-participant.invariant)
    ]
