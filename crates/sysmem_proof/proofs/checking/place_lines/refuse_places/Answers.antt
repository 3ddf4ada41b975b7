-- One heap more.
use Rattle.std.proofs.Common.{leb-true, le-leb}
use Rattle.verdict_claims.specs.Roll.{listed}
use Rattle.sysmem_proof.proofs.Past.{heap_past, heap_stops, heaps_past}
use Rattle.sysmem_proof.proofs.checking.place_lines.refuse_places.Goals as goal

pub returns-in_default : goal.returns-in_default
returns-in_default c = (
  λ is. absurd (cc),
  λ zip. absurd (heap_stops (listed c.args.roll.now) c.args.heaps.now c.args.lines.now c.loop-heap.heap-index c.loop-heap.at c.heap-item.result c.loop-heap-test.true c.heap-item.is c.loop-heap.invariant
      c.past_heap.result c.past_heap.ensures c.in_default.is zip),
)

pub loop-heap-preserved : goal.loop-heap-preserved
loop-heap-preserved c = heap_past (listed c.args.roll.now) c.args.heaps.now c.args.lines.now c.loop-heap.heap-index c.loop-heap.at c.heap-item.result c.loop-heap-test.true c.heap-item.is c.loop-heap.invariant
    c.past_heap.result c.past_heap.ensures c.in-Some.end c.in-Some.is

pub returns : goal.returns
returns c =
    let h = heaps_past (listed c.args.roll.now) c.args.heaps.now c.args.lines.now c.loop-heap.heap-index c.loop-heap.at c.loop-heap-test.false c.loop-heap.invariant in
    (λ is. h.1 (leb-true _ _ is), λ zip. le-leb _ _ (h.0 zip))
