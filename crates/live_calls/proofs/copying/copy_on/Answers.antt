-- Nothing lies behind an empty handle.
use Rattle.std.proofs.Common.{◌∙◌, refl}
use Rattle.live_calls.specs.Opening.{copy_misused}
use Rattle.live_calls.proofs.copying.copy_on.Goals as goal

pub returns-in_default-clause-copies : goal.returns-in_default-clause-copies
returns-in_default-clause-copies c = copy_misused (λ b e. cc (c.in_default.ensures.taken ∙ e)) refl
