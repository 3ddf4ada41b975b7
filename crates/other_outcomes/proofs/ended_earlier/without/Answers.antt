-- Each call is one less, or none.
use Rattle.std.proofs.Common.{subst, sym}
use Rattle.other_outcomes.specs.Shorter.{IsShorter, as_they_are}
use Rattle.other_outcomes.proofs.ended_earlier.without.Goals as goal

pub loop-end-init : goal.loop-end-init
loop-end-init c = subst (IsShorter c.args.calls.now) (sym c.in_ok-made.ensures.items) as_they_are

pub loop-end-preserved : goal.loop-end-preserved
loop-end-preserved c =
    c.in_ok-next.ensures c.args.calls.now (subst (IsShorter c.args.calls.now) (sym c.deref.ensures.value) c.loop-end.invariant)
