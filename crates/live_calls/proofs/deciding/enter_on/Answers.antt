-- The decision is the one that was taken.
use Rattle.std.proofs.Common.{inr, refl, subst, sym}
use Rattle.live_calls.specs.Deciding.{Enters, enter_misused}
use Rattle.live_calls.proofs.deciding.enter_on.Goals as goal

pub returns-in-Some-clause-enters : goal.returns-in-Some-clause-enters
returns-in-Some-clause-enters c = subst (λ d. Enters c.args.held.now.value c.enter_by.new.held.value d c.enter_by.result) (sym c.in-Some.ensures.decision) c.enter_by.ensures

pub returns-in-None-clause-enters : goal.returns-in-None-clause-enters
returns-in-None-clause-enters c = enter_misused (inr (c.in-None.ensures.none refl)) refl
