-- One participant more is counted.
use Rattle.std.proofs.Common.{subst, length, ◌≤◌, ◌+◌, ◌*◌, ◌^◌, ◌++◌, arith}
use Rattle.sysmem_counts.specs.Bounds.{IsTallyOf}
use Rattle.sysmem_counts.specs.Tally.{sum_of}
use Rattle.offer_fits.specs.Demands.{counts_asked}
use Rattle.search_questions.proofs.Taking.{asked_more, asked_whole, counted_more, long_more}
use Rattle.search_questions.proofs.on_base.add_counts.Goals as goal

pub loop-node-preserved : goal.loop-node-preserved
loop-node-preserved c =
    let is = asked_more c.args.tree.now.nodes c.args.nodes.now c.loop-node.node-index _ _ c.loop-node-test.true c.requires.there c.node-item.is c.constraints_of.ensures in
    let long = long_more _ _ _ is in record {
      added = λ ps stands. subst (IsTallyOf c.count_asked.new.counts) (counted_more ps _ _ _ is) (c.count_asked.ensures.added _ (c.loop-node.invariant.added ps stands));
      grows = omega (arith, c.count_asked.ensures.grows, c.loop-node.invariant.grows, long.0);
      few = omega (arith, c.loop-node.invariant.few, long.0, long.1);
    }

pub returns-clause-added : goal.returns-clause-added
returns-clause-added c = λ ps stands. subst (λ xs. IsTallyOf c.loop-node.counts (ps ++ counts_asked xs))
    (asked_whole c.args.tree.now.nodes c.args.nodes.now c.loop-node.node-index (omega (arith, c.loop-node-test.false))) (c.loop-node.invariant.added ps stands)

pub returns-clause-grows : goal.returns-clause-grows
returns-clause-grows c = subst (λ xs. sum_of c.loop-node.counts ≤ sum_of c.args.counts.now + length xs * 2 ^ 33)
    (asked_whole c.args.tree.now.nodes c.args.nodes.now c.loop-node.node-index (omega (arith, c.loop-node-test.false))) c.loop-node.invariant.grows
