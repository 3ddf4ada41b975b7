use Rattle.verdict_claims.proofs.Answering.{one_answer}
use Rattle.verdict_claims.proofs.laws.one_answer.Goals as goal

pub returns : goal.returns
returns c = one_answer c.one_best.ensures
