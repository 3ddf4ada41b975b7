use Rattle.std.proofs.Common.{arith, sym, ◌∙◌}
use Rattle.sysmem_memory.proofs.Left.{union_is, if_none, none_outside, some_inside, no_place_left, first_place_left}
use Rattle.sysmem_memory.proofs.bounds.MemoryBounds.first_place.Goals as goal

pub returns-in_err-heap-clause-none : goal.returns-in_err-heap-clause-none
returns-in_err-heap-clause-none c ps stands =
    let union = union_is c.args.self.now c.either.result c.either-2.result c.either.ensures c.either-2.ensures in
    if_none c.from_residual.result _ (no_place_left c.args.self.now c.args.heaps.now ps (λ k within. none_outside c.args.self.now c.either-2.result union k (c.in_err-heap.ensures.none k)) stands)

pub returns-then-heap-heaps-clause-none : goal.returns-then-heap-heaps-clause-none
returns-then-heap-heaps-clause-none c ps stands =
    let union = union_is c.args.self.now c.either.result c.either-2.result c.either.ensures c.either-2.ensures in
    no_place_left c.args.self.now c.args.heaps.now ps (λ k within. none_outside c.args.self.now c.either-2.result union k (c.in_ok-heap.ensures.lowest.before k (omega (arith, within, c.if-heap-heaps.true)))) stands

pub returns-in_err-coherency-clause-none : goal.returns-in_err-coherency-clause-none
returns-in_err-coherency-clause-none c ps stands =
    let union = union_is c.args.self.now c.either.result c.either-2.result c.either.ensures c.either-2.ensures in
    absurd (some_inside c.args.self.now c.either-2.result union c.in_ok-heap.heap c.in_ok-heap.ensures.lowest.has (λ d. sym (c.at.ensures d) ∙ c.in_err-coherency.ensures.none d))

pub returns-clause-first : goal.returns-clause-first
returns-clause-first c ps stands =
    let union = union_is c.args.self.now c.either.result c.either-2.result c.either.ensures c.either-2.ensures in
    first_place_left c.args.self.now c.args.heaps.now ps c.in_ok-heap.heap c.at.result c.in_ok-coherency.coherency (omega (arith, c.if-heap-heaps.false)) c.at.ensures c.in_ok-coherency.ensures.first
    (λ k below. none_outside c.args.self.now c.either-2.result union k (c.in_ok-heap.ensures.lowest.before k below)) stands
