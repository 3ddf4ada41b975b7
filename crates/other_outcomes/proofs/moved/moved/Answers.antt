-- Each step is a move more, or none.
use Rattle.std.proofs.Common.{subst, sym}
use Rattle.other_outcomes.specs.Moved.{IsMoved, as_they_are}
use Rattle.other_outcomes.proofs.moved.moved.Goals as goal

pub loop-one-init : goal.loop-one-init
loop-one-init c = subst (IsMoved c.args.calls.now) (sym c.in_ok-made.ensures.items) as_they_are

pub loop-one-preserved : goal.loop-one-preserved
loop-one-preserved c =
    c.in_ok-next.ensures c.args.calls.now (subst (IsMoved c.args.calls.now) (sym c.deref-in-loop-one-2.ensures.value) c.loop-one.invariant)
