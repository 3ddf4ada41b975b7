-- One node more, whom both name or neither does.
use Rattle.std.proofs.Common.{refl}
use Rattle.conflict_finding.proofs.AskedNodes.{named_alike}
use Rattle.conflict_finding.proofs.whom.name_same.Goals as goal

pub loop-node-preserved : goal.loop-node-preserved
loop-node-preserved c =
    named_alike c.args.those.now.tree.now.nodes c.args.those.now.nodes.now c.loop-node.node-index c.node-item.result c.loop-node-test.true c.node-item.is c.args.those.now.there
    _ c.constraints_of.ensures c.args.one c.args.other _ _ refl refl (c.is_alike.ensures c.if-not-is_alike.false) c.loop-node.invariant
