-- One more is added.
use Rattle.std.proofs.Common.{arith, take}
use Rattle.sysmem_merge.specs.Aggregate.{StandsFor}
use Rattle.flat_negotiation.proofs.Lists.{so-more}
use Rattle.flat_negotiation.proofs.settling.aggregate_of.Goals as goal

pub loop-index-preserved : goal.loop-index-preserved
loop-index-preserved c = (
  so-more (λ l. StandsFor c.add.new.self c.args.platform.now l) c.args.asked.now c.loop-index.index c.index-asked-index.result c.loop-index-test.true c.index-asked-index.is
      (c.in_ok-add.ensures.ok c.args.platform.now (take c.loop-index.index c.args.asked.now) c.loop-index.invariant.0),
  omega (arith, c.in_ok-add.ensures.grows, c.loop-index.invariant.1),
)
