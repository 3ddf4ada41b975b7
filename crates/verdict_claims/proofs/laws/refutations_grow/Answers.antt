use Rattle.verdict_claims.proofs.FinderLemmas.{splits_refute, earlier_grows}
use Rattle.verdict_claims.specs.Conflict.{IsConflictFor}
use Rattle.verdict_claims.proofs.laws.refutations_grow.Goals as goal

pub returns : goal.returns
returns c = λ platform terms d. record {
  split = λ es rs open' each. splits_refute (IsConflictFor platform terms) d es rs open' each;
  earlier = λ e es k cs rs rss open' here before rest. earlier_grows (IsConflictFor platform terms) d e es k cs rs rss open' here before rest;
}
