-- Nothing lies behind an empty handle.
use Rattle.std.proofs.Common.{◌∙◌, refl}
use Rattle.live_calls.specs.Deciding.{freeze_misused}
use Rattle.live_calls.proofs.deciding.freeze_on.Goals as goal

pub returns-in_default-clause-freezes : goal.returns-in_default-clause-freezes
returns-in_default-clause-freezes c = freeze_misused (λ b e. cc (c.in_default.ensures.taken ∙ e)) refl
