-- Nothing lies behind an empty handle.
use Rattle.std.proofs.Common.{◌∙◌}
use Rattle.live_calls.specs.Acting.{misused}
use Rattle.live_calls.proofs.acting.act_by.Goals as goal

pub returns-in_default-clause-acts : goal.returns-in_default-clause-acts
returns-in_default-clause-acts c = misused (λ b e. cc (c.in_default.ensures.taken ∙ e)) (c.in_default.ensures.empty ∙ c.in_default.ensures.taken)
