-- One more pair.
use Rattle.flat_negotiation.specs.Pairs.{IsPairSaid}
use Rattle.flat_negotiation.proofs.Lists.{zip-more}
use Rattle.flat_negotiation.proofs.parts.pairs.pairs_of.Goals as goal

pub loop-index-preserved : goal.loop-index-preserved
loop-index-preserved c =
    zip-more IsPairSaid c.args.flats.now c.loop-index.pairs.items c.add.new.items.items c.loop-index.index _ c.in-Ok.pair c.loop-index-test.true c.loop-index.invariant c.in-Ok.ensures.said c.in_ok-add-in-Ok.ensures
