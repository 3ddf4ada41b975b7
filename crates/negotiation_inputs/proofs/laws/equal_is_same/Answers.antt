use Rattle.negotiation_inputs.proofs.Same.{same_participants, same_platforms}
use Rattle.negotiation_inputs.proofs.laws.equal_is_same.Goals as goal

pub returns-clause-constraints : goal.returns-clause-constraints
returns-clause-constraints c = same_participants

pub returns-clause-platforms : goal.returns-clause-platforms
returns-clause-platforms c = same_platforms
