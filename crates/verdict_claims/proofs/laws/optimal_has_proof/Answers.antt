use Rattle.verdict_claims.proofs.Provable.{optimal_has_proof}
use Rattle.verdict_claims.proofs.laws.optimal_has_proof.Goals as goal

pub returns : goal.returns
returns c = optimal_has_proof c.one_path.ensures c.one_forest.ensures c.members_stand_once.ensures
