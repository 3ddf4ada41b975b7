-- Nothing lies behind an empty handle.
use Rattle.std.proofs.Common.{◌∙◌, refl}
use Rattle.live_script.specs.Texts.{write_misused}
use Rattle.live_script.proofs.calls.script_on.Goals as goal

pub returns-in_default-clause-writes : goal.returns-in_default-clause-writes
returns-in_default-clause-writes c = write_misused (λ b e. cc (c.in_default.ensures.taken ∙ e)) refl refl
