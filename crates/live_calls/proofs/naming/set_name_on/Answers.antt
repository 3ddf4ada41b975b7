-- Nothing lies behind an empty handle.
use Rattle.std.proofs.Common.{◌∙◌}
use Rattle.live_calls.specs.Naming.{set_name_misused}
use Rattle.live_calls.proofs.naming.set_name_on.Goals as goal

pub returns-in_default : goal.returns-in_default
returns-in_default c = set_name_misused (λ b e. cc (c.in_default.ensures.taken ∙ e)) (c.in_default.ensures.empty ∙ c.in_default.ensures.taken)
