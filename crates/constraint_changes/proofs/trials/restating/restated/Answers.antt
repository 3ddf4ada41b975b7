use Rattle.std.proofs.Common.{map, subst, sym}
use Rattle.script_reading.specs.Seen.{call_seen}
use Rattle.constraint_changes.specs.Edited.{IsRestated, as_they_are, one_more}
use Rattle.constraint_changes.proofs.trials.restating.restated.Goals as goal

pub loop-one-init : goal.loop-one-init
loop-one-init c =
    subst (λ cs. IsRestated (map call_seen c.args.calls.now) (map call_seen cs)) (sym c.in_ok-made.ensures.items) as_they_are

pub loop-one-preserved : goal.loop-one-preserved
loop-one-preserved c =
    subst (λ qs. IsRestated (map call_seen c.args.calls.now) qs) (sym c.in_ok-next.ensures)
    (one_more _ _ _ (subst (λ cs. IsRestated (map call_seen c.args.calls.now) (map call_seen cs)) (sym c.deref.ensures.value) c.loop-one.invariant))
