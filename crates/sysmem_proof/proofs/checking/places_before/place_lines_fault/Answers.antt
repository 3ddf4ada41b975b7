-- One heap after the other, and then those before the place in its own.
use Rattle.std.proofs.Common.{◌≡◌, ◌<◌, ◌∙◌, length, ap, arith}
use Rattle.sysmem_memory.specs.Heap.{HeapFacts}
use Rattle.sysmem_proof.specs.PlacesBefore.{domains_before}
use Rattle.verdict_claims.specs.Roll.{listed}
use Rattle.sysmem_proof.proofs.Left.{of_err}
use Rattle.sysmem_proof.proofs.PlacesFirst.{read_heap, heap_told, heap_fails, last_fails, last_all, all_held, one_more}
use Rattle.sysmem_proof.proofs.checking.places_before.place_lines_fault.Goals as goal

pub loop-index-preserved : goal.loop-index-preserved
loop-index-preserved c =
    let less : c.loop-index.index < length c.args.heaps.now = omega (arith, c.loop-index-test.true, c.requires) in
    let at = read_heap c.args.heaps.now c.loop-index.index c.index-heaps-index.result c.index-heaps-index.is less in
    heap_told (listed c.args.roll.now) c.args.heaps.now c.args.lines.now c.loop-index.index c.in_ok-many.many c.index-heaps-index.result c.heap.inside.domains at (ap (λ (h : HeapFacts). h.domains) c.heap.view_is)
    (c.in_ok-many.ensures _ c.loop-index.invariant)

pub returns-in_err-many : goal.returns-in_err-many
returns-in_err-many c = λ last here.
    let less : c.loop-index.index < length c.args.heaps.now = omega (arith, c.loop-index-test.true, c.requires) in
    let at = read_heap c.args.heaps.now c.loop-index.index c.index-heaps-index.result c.index-heaps-index.is less in
    of_err c.from_residual.result _ _ _ c.from_residual.ensures.1 (λ y same. same)
    (heap_fails (listed c.args.roll.now) c.args.heaps.now c.args.lines.now c.args.place last here c.loop-index.index c.index-heaps-index.result c.heap.inside.domains c.in_err-many.field-0.0 c.loop-index-test.true at
    (ap (λ (h : HeapFacts). h.domains) c.heap.view_is) (c.in_err-many.ensures _ c.loop-index.invariant))

pub returns-in_err-all : goal.returns-in_err-all
returns-in_err-all c = λ last here.
    let at = read_heap c.args.heaps.now c.args.place.heap c.index-heaps-place.result c.index-heaps-place.is c.requires in
    let end : c.loop-index.index ≡ c.args.place.heap = omega (arith, c.loop-index-test.false, c.loop-index.auto.index-end) in
    let up = c.domains_before-domains.ensures ∙ ap (λ (h : HeapFacts). domains_before h.domains c.args.place.coherency) c.last.view_is in
    of_err c.from_residual-in_err-all.result _ _ _ c.from_residual-in_err-all.ensures.1 (λ y same. same)
    (last_fails (listed c.args.roll.now) c.args.heaps.now c.args.lines.now c.args.place last here c.loop-index.index c.index-heaps-place.result c.domains_before-domains.result end at up c.in_err-all.field-0.0
    (c.in_err-all.ensures _ c.loop-index.invariant))

pub returns-then-all-lines : goal.returns-then-all-lines
returns-then-all-lines c = λ last here.
    let at = read_heap c.args.heaps.now c.args.place.heap c.index-heaps-place.result c.index-heaps-place.is c.requires in
    let end : c.loop-index.index ≡ c.args.place.heap = omega (arith, c.loop-index-test.false, c.loop-index.auto.index-end) in
    let up = c.domains_before-domains.ensures ∙ ap (λ (h : HeapFacts). domains_before h.domains c.args.place.coherency) c.last.view_is in
    one_more (listed c.args.roll.now) c.args.heaps.now c.args.lines.now c.args.place last here c.in_ok-all.all c.if-all-lines.true
    (last_all (listed c.args.roll.now) c.args.heaps.now c.args.lines.now c.args.place last here c.loop-index.index c.index-heaps-place.result c.domains_before-domains.result end at up c.in_ok-all.all
    (c.in_ok-all.ensures _ c.loop-index.invariant))

pub returns : goal.returns
returns c = λ last here.
    let at = read_heap c.args.heaps.now c.args.place.heap c.index-heaps-place.result c.index-heaps-place.is c.requires in
    let end : c.loop-index.index ≡ c.args.place.heap = omega (arith, c.loop-index-test.false, c.loop-index.auto.index-end) in
    let up = c.domains_before-domains.ensures ∙ ap (λ (h : HeapFacts). domains_before h.domains c.args.place.coherency) c.last.view_is in
    all_held (listed c.args.roll.now) c.args.heaps.now c.args.lines.now c.args.place last here c.in_ok-all.all c.if-all-lines.false
    (last_all (listed c.args.roll.now) c.args.heaps.now c.args.lines.now c.args.place last here c.loop-index.index c.index-heaps-place.result c.domains_before-domains.result end at up c.in_ok-all.all
    (c.in_ok-all.ensures _ c.loop-index.invariant))
