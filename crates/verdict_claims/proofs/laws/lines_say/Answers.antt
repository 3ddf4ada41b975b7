use Rattle.verdict_claims.proofs.Saying.{lines_say}
use Rattle.verdict_claims.proofs.laws.lines_say.Goals as goal

pub returns : goal.returns
returns c = lines_say
