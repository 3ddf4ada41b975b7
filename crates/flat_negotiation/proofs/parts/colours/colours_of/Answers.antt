-- One more colour space.
use Rattle.flat_negotiation.specs.Colours.{IsColourSaid}
use Rattle.flat_negotiation.proofs.Lists.{zip-more}
use Rattle.flat_negotiation.proofs.parts.colours.colours_of.Goals as goal

pub loop-index-preserved : goal.loop-index-preserved
loop-index-preserved c =
    zip-more IsColourSaid c.args.bits.now c.loop-index.colours.items c.add.new.items.items c.loop-index.index _ c.in-Ok.colour c.loop-index-test.true c.loop-index.invariant c.in-Ok.ensures.said c.in_ok-add-in-Ok.ensures
