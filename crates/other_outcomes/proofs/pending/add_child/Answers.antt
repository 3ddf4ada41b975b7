-- Both calls end something.
use Rattle.std.proofs.Common.{refl, subst, sym, ap}
use Rattle.other_outcomes.specs.Ended.{IsEnded, is_ending, one_more}
use Rattle.other_outcomes.proofs.pending.add_child.Goals as goal

pub returns : goal.returns
returns c = λ first ended.
    subst (IsEnded first) (sym c.in_ok-push-2.ensures.items) (one_more _ _ refl
    (subst (IsEnded first) (sym c.in_ok-push.ensures.items) (one_more _ _ (ap is_ending c.call_on.ensures) ended)))
