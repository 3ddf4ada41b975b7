-- One more who takes it.
use Rattle.std.proofs.Common.{arith}
use Rattle.sysmem_counts.specs.declared.field.Field.TheVariants.{ColorSpaces}
use Rattle.offer_fits.specs.Demands.{offer_demand}
use Rattle.conflict_finding.specs.Reading.{TakesIn}
use Rattle.conflict_finding.proofs.FirstOnes.{all_more, all_have}
use Rattle.conflict_finding.proofs.first_refusing.first_without_colour.Goals as goal

pub loop-node-preserved : goal.loop-node-preserved
loop-node-preserved c = all_more c.args.tree.now.nodes c.args.nodes.now c.requires c.loop-node.node-index c.node-item.result c.loop-node-test.true c.node-item.is _ c.constraints_of.ensures
    (λ p. TakesIn ColorSpaces c.args.offer.now (offer_demand p)) c.loop-node.invariant (c.lacks_colour.ensures.takes c.if-lacks_colour.false)

pub returns-clause-none : goal.returns-clause-none
returns-clause-none c = all_have c.args.tree.now.nodes c.args.nodes.now c.loop-node.node-index (λ p. TakesIn ColorSpaces c.args.offer.now (offer_demand p)) (omega (arith, c.loop-node-test.false)) c.loop-node.invariant
