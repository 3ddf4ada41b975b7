use Rattle.verdict_claims.proofs.Splitting.{selections_split}
use Rattle.verdict_claims.proofs.laws.selections_split.Goals as goal

pub returns : goal.returns
returns c = selections_split
