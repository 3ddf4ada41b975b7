-- Whoever isn't needed is left out.
use Rattle.std.proofs.Common.{◌≡◌}
use Rattle.settings_reasons.proofs.Participants.{all_in_the_way, fewer_in_the_way, same_in_the_way}
use Rattle.settings_reasons.proofs.empty.in_the_way.Goals as goal
use Rattle.settings_reasons.proofs.empty.in_the_way.Goals.{then-branch, else-branch}

pub loop-participant-init : goal.loop-participant-init
loop-participant-init c = all_in_the_way c.args.platform.now c.args.participants.now c.in_ok-kept.kept.items c.in_ok-kept.ensures.items
    (c.in_ok-are_some_unmet.ensures.some c.if-not-branch.false) (c.in_ok-are_some_unmet.ensures.unmet c.if-not-branch.false)

pub loop-participant-preserved : goal.loop-participant-preserved
loop-participant-preserved c = elim c.if-branch.branch [
  | then-branch w ↦ (
      let same : c.if-branch.kept.items ≡ c.in_ok-rest.rest.items = cc in
      same_in_the_way c.args.platform.now c.args.participants.now _ _ same
      (fewer_in_the_way c.args.platform.now c.args.participants.now c.participant-item.result.node c.loop-participant.kept.items c.deref.result.now c.in_ok-rest.rest.items c.deref-in-loop-participant.result.now
      c.deref.ensures.value c.in_ok-rest.ensures c.deref-in-loop-participant.ensures.value c.loop-participant.invariant (c.in_ok-are_some_unmet-2.ensures.some w.if-branch.true) (c.in_ok-are_some_unmet-2.ensures.unmet w.if-branch.true)))
  | else-branch w ↦ (
      let same : c.if-branch.kept.items ≡ c.loop-participant.kept.items = cc in
      same_in_the_way c.args.platform.now c.args.participants.now _ _ same c.loop-participant.invariant)
]
