-- One more whom the settings don't fail.
use Rattle.std.proofs.Common.{arith}
use Rattle.sysmem_merge.specs.Failing.{IsFirstUncovered}
use Rattle.sysmem_merge.specs.Settings.{CoversOn}
use Rattle.conflict_finding.proofs.FirstOnes.{all_more, all_have}
use Rattle.conflict_finding.proofs.FirstWithout.{first_here}
use Rattle.conflict_finding.proofs.first_refusing.first_failing.Goals as goal

pub loop-node-preserved : goal.loop-node-preserved
loop-node-preserved c = all_more c.args.tree.now.nodes c.args.nodes.now c.requires.there c.loop-node.node-index c.node-item.result c.loop-node-test.true c.node-item.is _ c.constraints_of.ensures
    (CoversOn c.args.platform.now c.args.settings.now) c.loop-node.invariant c.in_default.ensures.covered

pub returns-clause-covered : goal.returns-clause-covered
returns-clause-covered c = all_have c.args.tree.now.nodes c.args.nodes.now c.loop-node.node-index (CoversOn c.args.platform.now c.args.settings.now) (omega (arith, c.loop-node-test.false)) c.loop-node.invariant

pub returns-in-Some-clause-first : goal.returns-in-Some-clause-first
returns-in-Some-clause-first c = first_here c.args.tree.now.nodes c.args.nodes.now c.requires.there c.loop-node.node-index c.node-item.result c.loop-node-test.true c.node-item.is _ c.constraints_of.ensures
    (CoversOn c.args.platform.now c.args.settings.now) (IsFirstUncovered c.in-Some.field c.args.platform.now c.args.settings.now) c.loop-node.invariant c.in-Some.ensures.first
