-- One node more, named or not.
use Rattle.std.proofs.Common.{◌∙◌, ◌++◌, refl, sym, ap, subst}
use Rattle.sysmem_tree.specs.Path.{path_of}
use Rattle.conflict_finding.specs.AloneLines.{AreAlone}
use Rattle.conflict_finding.proofs.AskedNodes.{named_alone, named_push, named_past, node_there}
use Rattle.conflict_finding.proofs.whom.line_of.Goals as goal
use Rattle.conflict_finding.proofs.whom.line_of.Goals.{then-is_named+in_ok-put_alone, else-is_named}

pub loop-node-preserved : goal.loop-node-preserved
loop-node-preserved c = elim c.if-is_named.branch [
  | then-is_named+in_ok-put_alone w ↦ record {
    alone = subst (AreAlone c.args.those.now.tree.now.nodes) (sym w.alone-is) w.put_alone.ensures.alone;
    paths = named_push c.args.those.now.tree.now.nodes c.args.those.now.nodes.now c.loop-node.node-index c.node-item.result c.loop-node-test.true c.node-item.is c.args.those.now.there
        _ c.constraints_of.ensures c.args.whom c.is_named.result c.is_named.ensures c.loop-node.paths c.if-is_named.paths (path_of c.args.those.now.tree.now.nodes c.node-item.result) c.loop-node.invariant.paths
        (w.paths-is ∙ (w.in_ok-put_alone.ensures.paths ∙ ap (λ ps. c.loop-node.paths ++ ps)
        (named_alone c.args.those.now.tree.now.nodes c.node-item.result (node_there c.args.those.now.tree.now.nodes c.args.those.now.nodes.now c.loop-node.node-index c.node-item.result c.loop-node-test.true c.node-item.is c.args.those.now.there)
        _ c.constraints_of.ensures c.args.whom c.is_named.result c.is_named.ensures w.if-is_named.true))) refl w.if-is_named.true;
  }
  | else-is_named w ↦ record {
    alone = subst (AreAlone c.args.those.now.tree.now.nodes) (sym w.alone-is) c.loop-node.invariant.alone;
    paths = w.paths-is ∙ named_past c.args.those.now.tree.now.nodes c.args.those.now.nodes.now c.loop-node.node-index c.node-item.result c.loop-node-test.true c.node-item.is c.args.those.now.there
        _ c.constraints_of.ensures c.args.whom c.is_named.result c.is_named.ensures c.loop-node.paths c.loop-node.invariant.paths w.if-is_named.false;
  }
]
