-- One node more, or the same ones.
use Rattle.std.proofs.Common.{◌∙◌, sym, ap, subst, arith}
use Rattle.std.specs.Prelude.{All, Contains, filter}
use Rattle.sysmem_tree.specs.Nodes.{HasNode}
use Rattle.verdict_claims.specs.Members.{members_at, participants}
use Rattle.conflict_finding.specs.Askers.{is_asker}
use Rattle.conflict_finding.proofs.AskedNodes.{members_whole, node_there}
use Rattle.conflict_finding.proofs.ThoseAsking.{ask_more, ask_past, one_pushed}
use Rattle.conflict_finding.proofs.FirstOnes.{contained_at}
use Rattle.conflict_finding.proofs.askers.those_asking.Goals as goal
use Rattle.conflict_finding.proofs.askers.those_asking.Goals.{then-is_one+in_ok-push, else-is_one}

pub loop-node-preserved : goal.loop-node-preserved
loop-node-preserved c = elim c.if-is_one.branch [
  | then-is_one+in_ok-push w ↦
      let there = node_there c.args.tree.now.nodes c.args.nodes.now c.loop-node.node-index c.node-item.result c.loop-node-test.true c.node-item.is c.requires in
      let items = ap (λ v. v.items) w.some-is ∙ w.in_ok-push.ensures.items in
      record {
        there = one_pushed (HasNode c.args.tree.now.nodes) c.loop-node.some.items _ c.node-item.result items c.loop-node.invariant.there there;
        among = one_pushed (Contains c.args.nodes.now) c.loop-node.some.items _ c.node-item.result items c.loop-node.invariant.among (contained_at c.args.nodes.now c.loop-node.node-index c.node-item.result c.loop-node-test.true c.node-item.is);
        asks = ap (λ ns. participants (members_at c.args.tree.now.nodes ns)) items ∙ ask_more c.args.tree.now.nodes c.args.nodes.now c.loop-node.node-index c.node-item.result c.loop-node-test.true c.node-item.is c.requires
            _ c.constraints_of.ensures c.is_one.result c.is_one.ensures w.if-is_one.true c.loop-node.some.items c.loop-node.invariant.asks;
      }
  | else-is_one w ↦ record {
    there = subst (λ v. All (HasNode c.args.tree.now.nodes) v.items) (sym w.some-is) c.loop-node.invariant.there;
    among = subst (λ v. All (Contains c.args.nodes.now) v.items) (sym w.some-is) c.loop-node.invariant.among;
    asks = ap (λ v. participants (members_at c.args.tree.now.nodes v.items)) w.some-is ∙ ask_past c.args.tree.now.nodes c.args.nodes.now c.loop-node.node-index c.node-item.result c.loop-node-test.true c.node-item.is c.requires
        _ c.constraints_of.ensures c.is_one.result c.is_one.ensures w.if-is_one.false c.loop-node.some.items c.loop-node.invariant.asks;
  }
]

pub returns : goal.returns
returns c = record {
  there = c.loop-node.invariant.there;
  among = c.loop-node.invariant.among;
  asks = c.loop-node.invariant.asks ∙ ap (λ ms. filter is_asker (participants ms)) (members_whole c.args.tree.now.nodes c.args.nodes.now c.loop-node.node-index (omega (arith, c.loop-node-test.false)));
}
