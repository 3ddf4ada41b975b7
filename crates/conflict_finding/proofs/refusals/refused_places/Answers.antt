-- One heap more.
use Rattle.std.proofs.Common.{length, sym, ap, subst, drop, ◌+◌, ◌∙◌, arith}
use Rattle.std.specs.List.{AllZip}
use Rattle.sysmem_memory.specs.Listed.{HeapPlace, places_of}
use Rattle.verdict_claims.specs.FirstConflict.{IsPlaceLineGiven}
use Rattle.conflict_finding.specs.Refusals.{AreSoFar, Ends, EndsAt, SharePlace}
use Rattle.conflict_finding.proofs.Sofar.{all_done, heap_at, next_heap, no_heap, none_yet, they_end, they_go_on}
use Rattle.conflict_finding.proofs.refusals.refused_places.Goals as goal

pub push_heap-requires-clause-heap : goal.push_heap-requires-clause-heap
push_heap-requires-clause-heap c = heap_at c.args.those.now.platform.now.heaps c.heaps-heap-items.result.now c.loop-index.index _ c.heaps-heap-items.ensures.heaps c.loop-index-test.true c.heap-item.is

pub returns-then-not-branch-clause-lines : goal.returns-then-not-branch-clause-lines
returns-then-not-branch-clause-lines c = λ ms stand.
    subst (EndsAt (IsPlaceLineGiven ms) (Ends c.args.until (λ (p : HeapPlace). p.place) (SharePlace ms)) (places_of c.args.those.now.platform.now.heaps)) (sym c.new.ensures)
    (they_end (IsPlaceLineGiven ms) (Ends c.args.until (λ (p : HeapPlace). p.place) (SharePlace ms)) c.in_ok-push_heap.field-0 (places_of c.args.those.now.platform.now.heaps) _ _ c.if-not-branch.true
    (c.in_ok-push_heap.ensures.lines ms stand (places_of c.args.those.now.platform.now.heaps) (drop (c.loop-index.index + 1) c.args.those.now.platform.now.heaps)
    (next_heap (IsPlaceLineGiven ms) (places_of c.args.those.now.platform.now.heaps) c.args.those.now.platform.now.heaps c.heaps-heap-items.result.now c.loop-index.lines.items c.loop-index.index _ c.heaps-heap-items.ensures.heaps c.loop-index-test.true c.heap-item.is
    (c.loop-index.invariant.places ms stand))))

pub loop-index-init : goal.loop-index-init
loop-index-init c = record {
  learnt = c.requires.learnt;
  places = λ ms stand. subst (λ lines. AreSoFar (IsPlaceLineGiven ms) (places_of c.args.those.now.platform.now.heaps) lines (places_of c.args.those.now.platform.now.heaps)) (sym c.in_ok-lines.ensures)
      (none_yet (IsPlaceLineGiven ms) (places_of c.args.those.now.platform.now.heaps));
}

pub loop-index-preserved : goal.loop-index-preserved
loop-index-preserved c = record {
  learnt = c.push_heap.ensures.learnt;
  places = λ ms stand.
      they_go_on (IsPlaceLineGiven ms) (Ends c.args.until (λ (p : HeapPlace). p.place) (SharePlace ms)) c.in_ok-push_heap.field-0 (places_of c.args.those.now.platform.now.heaps) _ _ c.if-not-branch.false
      (c.in_ok-push_heap.ensures.lines ms stand (places_of c.args.those.now.platform.now.heaps) (drop (c.loop-index.index + 1) c.args.those.now.platform.now.heaps)
      (next_heap (IsPlaceLineGiven ms) (places_of c.args.those.now.platform.now.heaps) c.args.those.now.platform.now.heaps c.heaps-heap-items.result.now c.loop-index.lines.items c.loop-index.index _ c.heaps-heap-items.ensures.heaps c.loop-index-test.true c.heap-item.is
      (c.loop-index.invariant.places ms stand)));
}

pub returns-clause-lines : goal.returns-clause-lines
returns-clause-lines c = λ ms stand.
    subst (AllZip (IsPlaceLineGiven ms) (places_of c.args.those.now.platform.now.heaps)) (sym (c.in_ok-fitted.ensures ∙ c.new-2.ensures))
    (all_done (IsPlaceLineGiven ms) (places_of c.args.those.now.platform.now.heaps) c.loop-index.lines.items
    (subst (AreSoFar (IsPlaceLineGiven ms) (places_of c.args.those.now.platform.now.heaps) c.loop-index.lines.items)
    (no_heap c.args.those.now.platform.now.heaps c.loop-index.index (omega (arith, c.loop-index-test.false, ap length c.heaps-heap-items.ensures.heaps))) (c.loop-index.invariant.places ms stand)))
