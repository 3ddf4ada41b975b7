use Rattle.verdict_claims.proofs.FinderLemmas.{reasons_are_conflicts}
use Rattle.verdict_claims.proofs.laws.reasons_are_conflicts.Goals as goal

pub returns : goal.returns
returns c = reasons_are_conflicts
