-- Nothing lies behind an empty handle.
use Rattle.std.proofs.Common.{◌∙◌, inl}
use Rattle.live_calls.specs.Deciding.{enter_misused}
use Rattle.live_calls.proofs.deciding.enter_by.Goals as goal

pub returns-in_default : goal.returns-in_default
returns-in_default c = enter_misused (inl (λ b e. cc (c.in_default.ensures.taken ∙ e))) (c.in_default.ensures.empty ∙ c.in_default.ensures.taken)
