-- One heap more.
use Rattle.std.proofs.Common.{◌∙◌, ap, arith, ◌+◌}
use Rattle.sysmem_proof.specs.EachLine.{many_in}
use Rattle.sysmem_proof.proofs.Numbering.{places_more, places_whole}
use Rattle.sysmem_proof.proofs.checking.fixed_faults.count_places.Goals as goal

pub loop-heap-preserved : goal.loop-heap-preserved
loop-heap-preserved c = record {
  many = ap (λ n. n + c.places_in-many.result) c.loop-heap.invariant.many
      ∙ places_more c.args.heaps.now c.loop-heap.heap-index c.heap-item.result c.places_in-many.result c.loop-heap-test.true c.heap-item.is
      (c.places_in-many.ensures.many ∙ ap (λ h. many_in h.domains) c.heap.view_is);
  few = omega (arith, c.loop-heap.invariant.few, c.places_in-many.ensures.few);
}

pub returns : goal.returns
returns c = c.loop-heap.invariant.many ∙ places_whole c.args.heaps.now c.loop-heap.heap-index (omega (arith, c.loop-heap-test.false))
