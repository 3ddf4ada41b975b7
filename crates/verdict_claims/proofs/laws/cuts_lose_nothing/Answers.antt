use Rattle.verdict_claims.proofs.Cutting.{cuts_lose_nothing}
use Rattle.verdict_claims.proofs.laws.cuts_lose_nothing.Goals as goal

pub returns : goal.returns
returns c = cuts_lose_nothing c.some_are_met.ensures
