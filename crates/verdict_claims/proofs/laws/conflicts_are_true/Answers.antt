use Rattle.verdict_claims.proofs.Exact.{conflicts_are_true}
use Rattle.verdict_claims.proofs.laws.conflicts_are_true.Goals as goal

pub returns : goal.returns
returns c = conflicts_are_true (record {
  offer = c.offer_line_leaves_none.ensures;
  place = c.place_line_leaves_none.ensures;
  count = c.count_line_leaves_none.ensures;
  unnamed = c.unnamed_line_leaves_none.ensures;
})
