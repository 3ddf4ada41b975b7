use Rattle.verdict_claims.proofs.CountNodes.{counts_are_of_some, fixed_counts_are_of_some}
use Rattle.verdict_claims.proofs.FinderLemmas.{bounds_are_of_some, some_are_named}
use Rattle.verdict_claims.proofs.laws.some_are_named.Goals as goal

pub returns-clause-counts : goal.returns-clause-counts
returns-clause-counts c = counts_are_of_some

pub returns-clause-bounds : goal.returns-clause-bounds
returns-clause-bounds c = bounds_are_of_some

pub returns-clause-named : goal.returns-clause-named
returns-clause-named c = some_are_named

pub returns-clause-fixed_counts : goal.returns-clause-fixed_counts
returns-clause-fixed_counts c = fixed_counts_are_of_some
