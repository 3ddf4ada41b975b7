-- Each step is a move more, or none.
use Rattle.std.proofs.Common.{subst, sym}
use Rattle.other_outcomes.specs.Moved.{IsMoved}
use Rattle.other_outcomes.proofs.ended_later.carried.Goals as goal

pub loop-one-init : goal.loop-one-init
loop-one-init c = λ first moved. subst (IsMoved first) (sym c.in_ok-made.ensures.items) moved

pub loop-one-preserved : goal.loop-one-preserved
loop-one-preserved c = λ first moved.
    c.in_ok-next.ensures first (subst (IsMoved first) (sym c.deref.ensures.value) (c.loop-one.invariant first moved))
