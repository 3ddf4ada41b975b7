-- Nothing lies behind an empty handle.
use Rattle.std.proofs.Common.{◌∙◌, refl}
use Rattle.live_calls.specs.Opening.{open_misused}
use Rattle.live_calls.proofs.opening.open.Goals as goal

pub returns-in_default-clause-opens : goal.returns-in_default-clause-opens
returns-in_default-clause-opens c = open_misused (λ b e. cc (c.in_default.ensures.taken ∙ e)) refl
