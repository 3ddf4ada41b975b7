use Rattle.verdict_claims.proofs.Exact.{tests_are_exact}
use Rattle.verdict_claims.proofs.laws.tests_are_exact.Goals as goal

pub returns : goal.returns
returns c = tests_are_exact (record {
  offer = c.offer_line_leaves_none.ensures;
  place = c.place_line_leaves_none.ensures;
  count = c.count_line_leaves_none.ensures;
  unnamed = c.unnamed_line_leaves_none.ensures;
})
