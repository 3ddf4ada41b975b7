-- By what `==` answers.
use Rattle.std.proofs.Common.{sym, ◌∙◌}
use Rattle.negotiation_inputs.proofs.Same.{same_participants}
use Rattle.negotiation_inputs.proofs.constraints.Constraints.is_same.Goals as goal

pub returns : goal.returns
returns c = let law = same_participants c.args.self.now c.args.other.now in (λ is. law.0 (sym c.eq.ensures ∙ is), λ same. c.eq.ensures ∙ law.1 same)
