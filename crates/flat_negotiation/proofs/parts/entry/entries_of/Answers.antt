-- One more entry.
use Rattle.flat_negotiation.specs.Entries.{IsEntrySaid}
use Rattle.flat_negotiation.proofs.Lists.{zip-more}
use Rattle.flat_negotiation.proofs.parts.entry.entries_of.Goals as goal

pub loop-index-preserved : goal.loop-index-preserved
loop-index-preserved c =
    zip-more IsEntrySaid c.args.flats.now c.loop-index.entries.items c.add.new.items.items c.loop-index.index _ c.in-Ok.entry c.loop-index-test.true c.loop-index.invariant c.in-Ok.ensures.said c.in_ok-add-in-Ok.ensures
