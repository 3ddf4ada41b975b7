-- One more, if it is another one.
use Rattle.std.proofs.Common.{◌∙◌, sym, ap, not}
use Rattle.sysmem_formats.specs.contracts.offer.PairPartialEq.TheImpl as pair
use Rattle.other_outcomes.proofs.Firsts.{kept_more, dropped_more}
use Rattle.other_outcomes.proofs.later_pairs.pairs_from.Goals.{then-ne+in_ok-push-2, else-ne}
use Rattle.other_outcomes.proofs.later_pairs.pairs_from.Goals as goal

pub loop-other-preserved : goal.loop-other-preserved
loop-other-preserved c = elim c.if-ne.branch [
  | then-ne+in_ok-push-2 w ↦
      (ap (λ v. v.items) w.made-is ∙ w.in_ok-push-2.ensures.items)
      ∙ kept_more (λ other. not (pair.ghosts.eq other c.args.first)) c.args.first c.args.pairs.now c.loop-other.made.items c.loop-other.other-index _ c.loop-other-test.true c.loop-other.invariant
      (sym c.ne.ensures ∙ w.if-ne.true)
  | else-ne w ↦
      ap (λ v. v.items) w.made-is
      ∙ dropped_more (λ other. not (pair.ghosts.eq other c.args.first)) c.args.first c.args.pairs.now c.loop-other.made.items c.loop-other.other-index _ c.loop-other-test.true c.loop-other.invariant
      (sym c.ne.ensures ∙ w.if-ne.false)
]
