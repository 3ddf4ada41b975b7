-- One more who refuses the place by the field, or nobody more.
use Rattle.std.proofs.Common.{◌≡◌, sym, ◌∙◌}
use Rattle.settings_reasons.specs.True.{refuses}
use Rattle.settings_reasons.proofs.Participants.{one_kept, one_left}
use Rattle.settings_reasons.proofs.place_reason.refusing.Goals as goal
use Rattle.settings_reasons.proofs.place_reason.refusing.Goals.{then-refuses_in+in_ok-push, else-refuses_in}

pub loop-participant-preserved : goal.loop-participant-preserved
loop-participant-preserved c =
    let test = refuses c.args.field c.args.heap.now c.args.coherency in
    let same : test c.participant-item.result.asked.now ≡ c.refuses_in.result = rw c.usage.ensures.usage at (rw c.memory-memory.ensures.memory at (sym c.refuses_in.ensures)) in
    elim c.if-refuses_in.branch [
      | then-refuses_in+in_ok-push w ↦ rw w.those-is (one_kept test c.args.participants.now c.loop-participant.those.items _ c.loop-participant.participant-index c.participant-item.result c.loop-participant-test.true c.participant-item.is (same ∙ w.if-refuses_in.true) w.in_ok-push.ensures.items c.loop-participant.invariant)
      | else-refuses_in w ↦ rw w.those-is (one_left test c.args.participants.now c.loop-participant.those.items c.loop-participant.participant-index c.participant-item.result c.loop-participant-test.true c.participant-item.is (same ∙ w.if-refuses_in.false) c.loop-participant.invariant)
    ]
