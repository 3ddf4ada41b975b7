-- Nothing lies behind an empty handle.
use Rattle.std.proofs.Common.{◌∙◌, refl}
use Rattle.live_calls.specs.Naming.{name_misused}
use Rattle.live_calls.proofs.naming.name_on.Goals as goal

pub returns-in_default-clause-tells : goal.returns-in_default-clause-tells
returns-in_default-clause-tells c = name_misused (λ b e. cc (c.in_default.ensures.taken ∙ e)) refl refl
