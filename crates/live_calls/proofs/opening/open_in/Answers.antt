-- Only a platform opens collections.
use Rattle.std.proofs.Common.{refl}
use Rattle.live_calls.specs.Opening.{open_misused}
use Rattle.live_calls.proofs.opening.open_in.Goals as goal

pub returns-in_default : goal.returns-in_default
returns-in_default c = open_misused (λ p e. c.in_default.not-Platform p (cc e)) refl
