use Rattle.std.proofs.Common.{arith, ap, sym, ◌∙◌, ◌&&◌, Some, is_none}
use Rattle.std.proofs.lemmas.Option.{slice_get-get_or}
use Rattle.sysmem_memory.specs.PlaceTable.{first_refusing}
use Rattle.sysmem_memory.proofs.Left.{still_left_of, left_of_more, left_by_more}
use Rattle.sysmem_memory.proofs.bounds.MemoryBounds.add.Goals as goal

pub loop-index-preserved : goal.loop-index-preserved
loop-index-preserved c =
    let heap = c.index-heaps-index.result in
    left_of_more (still_left_of c.args.memory.now c.args.usage c.args.self.now) c.args.heaps.now c.loop-index.index c.loop-index.left c.with-left.result heap c.still_left.result
    (slice_get-get_or c.args.heaps.now c.loop-index.index heap (omega arith) ∙ ap Some (sym c.index-heaps-index.is)) c.loop-index.invariant c.with-left.ensures.heap c.with-left.ensures.others
    (λ d. c.still_left.ensures d ∙ ap (λ b. b && is_none (first_refusing c.args.memory.now c.args.usage heap d)) (c.at.ensures d))

pub returns : goal.returns
returns c ps stands =
    left_by_more c.args.self.now c.loop-index.left c.args.heaps.now ps (record { memory = c.args.memory.now; usage = c.args.usage }) c.loop-index.index (omega (arith, c.loop-index-test.false)) c.loop-index.invariant stands
