-- One participant more is counted.
use Rattle.std.proofs.Common.{subst, ◌++◌, arith}
use Rattle.sysmem_counts.specs.Bounds.{IsTallyOf}
use Rattle.offer_fits.specs.Demands.{counts_asked}
use Rattle.sysmem_proof.proofs.Asking.{asked_more, asked_whole, counted_more}
use Rattle.sysmem_proof.proofs.checking.asked_of_nodes.add_counts.Goals as goal

pub loop-node-preserved : goal.loop-node-preserved
loop-node-preserved c =
    let is = asked_more c.args.tree.now.nodes c.args.nodes.now c.loop-node.node-index _ _ c.loop-node-test.true c.requires.there c.node-item.is c.constraints_of.ensures in record {
      added = λ ps stands. subst (IsTallyOf c.add_count.new.counts) (counted_more ps _ _ _ is) (c.add_count.ensures.added _ (c.loop-node.invariant.added ps stands));
      grows = omega (arith, c.add_count.ensures.grows, c.loop-node.invariant.grows);
    }

pub returns-clause-added : goal.returns-clause-added
returns-clause-added c = λ ps stands. subst (λ xs. IsTallyOf c.loop-node.counts (ps ++ counts_asked xs))
    (asked_whole c.args.tree.now.nodes c.args.nodes.now c.loop-node.node-index (omega (arith, c.loop-node-test.false))) (c.loop-node.invariant.added ps stands)
