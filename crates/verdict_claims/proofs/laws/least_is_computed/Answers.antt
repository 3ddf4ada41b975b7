use Rattle.verdict_claims.proofs.Least.{least_is_computed}
use Rattle.verdict_claims.proofs.laws.least_is_computed.Goals as goal

pub returns : goal.returns
returns c = least_is_computed c.one_fit.ensures
