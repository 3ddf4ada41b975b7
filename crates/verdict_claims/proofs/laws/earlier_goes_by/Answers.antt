use Rattle.verdict_claims.proofs.Splitting.{earlier_goes_by}
use Rattle.verdict_claims.proofs.laws.earlier_goes_by.Goals as goal

pub returns : goal.returns
returns c = earlier_goes_by
