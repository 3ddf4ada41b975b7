-- Nothing lies behind an empty handle.
use Rattle.std.proofs.Common.{◌∙◌, refl}
use Rattle.live_script.specs.Refusing.{refusal_misused}
use Rattle.live_script.proofs.refusal.refusal_on.Goals as goal

pub returns-in_default-clause-tells : goal.returns-in_default-clause-tells
returns-in_default-clause-tells c = refusal_misused (λ s e. cc (c.in_default.ensures.taken ∙ e)) refl
