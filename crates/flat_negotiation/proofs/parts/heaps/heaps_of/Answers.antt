-- One more heap.
use Rattle.flat_negotiation.proofs.HeapList.{heaps-more}
use Rattle.flat_negotiation.proofs.parts.heaps.heaps_of.Goals as goal

pub loop-index-preserved : goal.loop-index-preserved
loop-index-preserved c =
    heaps-more c.args.flats.now c.loop-index.heaps.items c.push.new.self.items c.loop-index.index _ c.in_ok-heap_of.field-0 c.loop-index-test.true c.loop-index.invariant c.in_ok-heap_of.ensures c.in_ok-push.ensures.items
