-- Nothing lies behind an empty handle.
use Rattle.std.proofs.Common.{◌∙◌, refl}
use Rattle.live_calls.specs.Checking.{check_misused}
use Rattle.live_calls.proofs.checking.check_on.Goals as goal

pub returns-in_default-clause-checks : goal.returns-in_default-clause-checks
returns-in_default-clause-checks c = check_misused (λ b e. cc (c.in_default.ensures.taken ∙ e)) refl
