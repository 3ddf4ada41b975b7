-- Each call ends something.
use Rattle.std.proofs.Common.{subst, sym, ap}
use Rattle.other_outcomes.specs.Ended.{IsEnded, is_ending, as_they_are, one_more}
use Rattle.other_outcomes.proofs.pending.without.Goals.{then-not-is_group+in_ok-push, else-not-is_group+then-is_childless+in-Some+in_ok-add_child, else-not-is_group+else-is_childless}
use Rattle.other_outcomes.proofs.pending.without.Goals as goal

pub loop-one-init : goal.loop-one-init
loop-one-init c = subst (IsEnded c.args.scenario.now.calls.now) (sym c.in_ok-calls.ensures.items) as_they_are

pub loop-one-preserved : goal.loop-one-preserved
loop-one-preserved c = elim c.if-not-is_group.branch [
  | then-not-is_group+in_ok-push w ↦
      subst (λ calls. IsEnded c.args.scenario.now.calls.now calls.items) (sym w.calls-is)
      (subst (IsEnded c.args.scenario.now.calls.now) (sym w.in_ok-push.ensures.items)
      (one_more _ _ (ap is_ending w.call_on.ensures) c.loop-one.invariant))
  | else-not-is_group+then-is_childless+in-Some+in_ok-add_child w ↦
      subst (λ calls. IsEnded c.args.scenario.now.calls.now calls.items) (sym w.calls-is)
      (w.in_ok-add_child.ensures c.args.scenario.now.calls.now c.loop-one.invariant)
  | else-not-is_group+else-is_childless w ↦
      subst (λ calls. IsEnded c.args.scenario.now.calls.now calls.items) (sym w.calls-is) c.loop-one.invariant
]
