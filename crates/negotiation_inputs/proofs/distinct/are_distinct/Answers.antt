-- One more is none of those before, or is one again.
use Rattle.std.proofs.Common.{refl, sym, ◌∙◌, arith}
use Rattle.negotiation_inputs.proofs.NoneTwice.{none-left, one-again, one-more}
use Rattle.negotiation_inputs.proofs.distinct.are_distinct.Goals as goal

pub returns-then-is_among : goal.returns-then-is_among
returns-then-is_among g c = (
  λ yes'. absurd (cc),
  λ distinct. absurd (one-again g.T.Distinct.same c.args.items.now c.loop-index.index c.index-items-index.result c.loop-index-test.true c.index-items-index.is (sym c.is_among.ensures ∙ c.if-is_among.true) distinct),
)

pub loop-index-preserved : goal.loop-index-preserved
loop-index-preserved g c =
    one-more g.T.Distinct.same c.args.items.now c.loop-index.index c.index-items-index.result c.loop-index-test.true c.index-items-index.is (sym c.is_among.ensures ∙ c.if-is_among.false) c.loop-index.invariant

pub returns : goal.returns
returns g c = (λ yes'. none-left g.T.Distinct.same c.args.items.now c.loop-index.index (omega (arith, c.loop-index-test.false)) c.loop-index.invariant, λ distinct. refl)
