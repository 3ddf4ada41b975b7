-- One more that both have.
use Rattle.std.proofs.Common.{sym, ◌∙◌, arith}
use Rattle.std.proofs.lemmas.List.{take_more_same}
use Rattle.conflict_finding.proofs.settled_row.common_front.Goals as goal

pub loop-index-preserved : goal.loop-index-preserved
loop-index-preserved c = record {
  same = take_more_same c.args.row.now c.args.next.now c.loop-index.index c.index-row-index.result (omega (arith, c.loop-index-test.true)) (c.stands_at.ensures.within c.if-not-stands_at.false) c.loop-index.invariant.same
      (sym c.index-row-index.is ∙ c.stands_at.ensures.is c.if-not-stands_at.false);
  few = omega (arith, c.stands_at.ensures.within c.if-not-stands_at.false);
}
