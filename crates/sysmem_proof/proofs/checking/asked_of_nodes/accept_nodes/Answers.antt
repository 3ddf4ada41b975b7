-- One participant more accepts the settings, or doesn't.
use Rattle.std.proofs.Common.{All, refl, subst, arith}
use Rattle.sysmem_merge.specs.Settings.{CoversOn}
use Rattle.sysmem_proof.proofs.Asking.{asked_more, asked_whole, have_more, one_lacks}
use Rattle.sysmem_proof.proofs.checking.asked_of_nodes.accept_nodes.Goals as goal

pub returns-then-not-is_accepted : goal.returns-then-not-is_accepted
returns-then-not-is_accepted c =
    let is = asked_more c.args.tree.now.nodes c.args.nodes.now c.loop-node.node-index _ _ c.loop-node-test.true c.requires c.node-item.is c.constraints_of.ensures in (
      λ yes'. absurd (cc),
      λ all. absurd (one_lacks (CoversOn c.args.platform.now c.args.settings.now) c.args.tree.now.nodes c.args.nodes.now c.loop-node.node-index _ c.is_accepted.result c.if-not-is_accepted.true c.is_accepted.ensures is all),
    )

pub loop-node-preserved : goal.loop-node-preserved
loop-node-preserved c =
    let is = asked_more c.args.tree.now.nodes c.args.nodes.now c.loop-node.node-index _ _ c.loop-node-test.true c.requires c.node-item.is c.constraints_of.ensures in
    have_more (CoversOn c.args.platform.now c.args.settings.now) _ _ _ c.is_accepted.result is c.if-not-is_accepted.false c.is_accepted.ensures c.loop-node.invariant

pub returns : goal.returns
returns c = (
  λ yes'. subst (All (CoversOn c.args.platform.now c.args.settings.now)) (asked_whole c.args.tree.now.nodes c.args.nodes.now c.loop-node.node-index (omega (arith, c.loop-node-test.false))) c.loop-node.invariant,
  λ all. refl,
)
