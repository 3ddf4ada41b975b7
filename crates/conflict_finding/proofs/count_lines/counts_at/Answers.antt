-- One more is counted.
use Rattle.std.proofs.Common.{subst, arith}
use Rattle.sysmem_counts.specs.Bounds.{IsTallyOf}
use Rattle.conflict_finding.proofs.AskedNodes.{counts_more}
use Rattle.conflict_finding.proofs.count_lines.counts_at.Goals as goal

pub loop-node-preserved : goal.loop-node-preserved
loop-node-preserved c = record {
  stands = subst (IsTallyOf c.add_count.new.counts)
      (counts_more c.args.tree.now.nodes c.args.nodes.now c.loop-node.node-index c.node-item.result c.loop-node-test.true c.node-item.is c.requires.there _ c.constraints_of.ensures)
      (c.add_count.ensures.added _ c.loop-node.invariant.stands);
  few = omega (arith, c.add_count.ensures.grows, c.loop-node.invariant.few);
}
