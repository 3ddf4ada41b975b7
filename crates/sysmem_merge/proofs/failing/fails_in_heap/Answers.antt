use Rattle.std.proofs.Common.{sym, inl}
use Rattle.sysmem_merge.specs.Demands.{offer_demand}
use Rattle.sysmem_merge.proofs.Uncovered.{fails_else, format_exact, colour_exact, place_test}
use Rattle.sysmem_merge.proofs.failing.fails_in_heap.Goals as goal

pub returns-in-PixelFormat : goal.returns-in-PixelFormat
returns-in-PixelFormat c =
    let p = c.args.asked.now in
    format_exact c.args.field c.args.heap.now c.args.settings.now p c.has_format.result c.in-PixelFormat.is (c.has_format.ensures (offer_demand p) (sym c.entries.ensures.entries))

pub returns-in-ColorSpaces : goal.returns-in-ColorSpaces
returns-in-ColorSpaces c =
    let p = c.args.asked.now in
    colour_exact c.args.field c.args.heap.now c.args.settings.now p c.has_colour.result c.in-ColorSpaces.is (c.has_colour.ensures (offer_demand p) (sym c.entries-in-ColorSpaces.ensures.entries))

pub returns-then-in_bounds : goal.returns-then-in_bounds
returns-then-in_bounds c =
    let p = c.args.asked.now in
    let else = fails_else c.args.field c.args.heap.now c.args.settings.now p c.in_default.not-PixelFormat c.in_default.not-ColorSpaces c.in_default.not-MinSizeBytes c.in_default.not-MaxSizeBytes in
    (λ yes. else.0 (inl ((c.fails_bound_of-in_bounds.ensures (offer_demand p) (sym c.entries-in_default.ensures.entries)).0 yes)), λ _. c.if-in_bounds.true)

pub returns-else-in_bounds : goal.returns-else-in_bounds
returns-else-in_bounds c =
    let p = c.args.asked.now in
    place_test c.args.field c.args.heap.now c.args.settings.now p c.fails_bound_of-in_bounds.result c.refuses_in.result
    (fails_else c.args.field c.args.heap.now c.args.settings.now p c.in_default.not-PixelFormat c.in_default.not-ColorSpaces c.in_default.not-MinSizeBytes c.in_default.not-MaxSizeBytes)
    (c.fails_bound_of-in_bounds.ensures (offer_demand p) (sym c.entries-in_default.ensures.entries)) c.if-in_bounds.false
    (rw (c.memory-else-in_bounds.ensures.memory, c.usage.ensures.usage) at c.refuses_in.ensures)
