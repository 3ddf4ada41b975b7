-- Each call that is carried is some moves more.
use Rattle.std.proofs.Common.{subst, sym}
use Rattle.other_outcomes.specs.Moved.{IsMoved, as_they_are}
use Rattle.other_outcomes.proofs.ended_later.put_before.Goals as goal

pub loop-end-init : goal.loop-end-init
loop-end-init c = subst (IsMoved c.args.calls.now) (sym c.in_ok-made.ensures.items) as_they_are

pub loop-end-preserved : goal.loop-end-preserved
loop-end-preserved c =
    c.in_ok-next.ensures c.args.calls.now (subst (IsMoved c.args.calls.now) (sym c.deref.ensures.value) c.loop-end.invariant)
