-- Each call says that a group has all its children.
use Rattle.std.proofs.Common.{subst, sym, ap}
use Rattle.other_outcomes.specs.Ended.{IsEnded, is_ending, one_more}
use Rattle.other_outcomes.proofs.pending.complete.Goals as goal

pub loop-one-preserved-in-Continue-1 : goal.loop-one-preserved-in-Continue-1
loop-one-preserved-in-Continue-1 c = λ first ended.
    subst (IsEnded first) (sym c.in_ok-push.ensures.items)
    (one_more _ _ (ap is_ending c.call_on.ensures) (c.loop-one.invariant first ended))
