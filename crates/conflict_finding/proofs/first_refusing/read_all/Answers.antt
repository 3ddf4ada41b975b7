-- What one more asks is read.
use Rattle.conflict_finding.proofs.FirstOnes.{read_more}
use Rattle.conflict_finding.proofs.first_refusing.read_all.Goals as goal

pub loop-node-preserved : goal.loop-node-preserved
loop-node-preserved c = read_more c.args.tree.now.nodes c.args.nodes.now c.requires c.loop-node.node-index c.node-item.result c.loop-node-test.true c.node-item.is _ c.constraints_of.ensures
    c.args.offer.now c.loop-node.read c.add_read.new.read c.loop-node.invariant c.add_read.ensures
