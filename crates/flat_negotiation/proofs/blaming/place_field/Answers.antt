-- The field refuses the heap of the place.
use Rattle.std.proofs.Common.{◌≡◌, Some, refl, slice_get, subst}
use Rattle.std.proofs.lemmas.Option.{IfSome_then, slice_get_read}
use Rattle.flat_negotiation.proofs.blaming.place_field.Goals as goal

pub returns : goal.returns
returns c =
    let at = c.args.settings.now.place.heap in
    let heap = c.in_ok-heap.heap.now in
    let lookup = c.in_ok-heap.ensures.lookup in
    let read = slice_get_read c.heaps.result.now _ at heap refl lookup.3.0 lookup.1 in
    IfSome_then c.refuses.result c.refuses.ensures.refused (λ field refuses. record {
      heap = heap;
      has = subst (λ heaps. slice_get heaps at ≡ Some heap) c.heaps.ensures.heaps read;
      refuses = rw c.usage.ensures.usage at (rw c.memory.ensures.memory at refuses);
    })
