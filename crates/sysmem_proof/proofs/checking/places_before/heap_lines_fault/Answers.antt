-- The places of a heap, one after the other.
use Rattle.std.proofs.Common.{List}
use Rattle.sysmem_memory.specs.declared.domain.CoherencyDomain.TheVariants.{Cpu, Ram, Inaccessible}
use Rattle.sysmem_memory.specs.Listed.{HeapPlace}
use Rattle.sysmem_proof.specs.PlacesBefore.{place_if}
use Rattle.verdict_claims.specs.Roll.{listed}
use Rattle.sysmem_proof.proofs.Left.{of_err}
use Rattle.sysmem_proof.proofs.PlacesFirst.{first_fails, second_fails, last_told}
use Rattle.sysmem_proof.proofs.checking.places_before.heap_lines_fault.Goals as goal

pub returns-in_err-past_cpu : goal.returns-in_err-past_cpu
returns-in_err-past_cpu c = λ told are.
    let cpus : List HeapPlace = place_if c.args.domains.cpu (record { heap = c.args.index; coherency = Cpu }) c.args.heap.now in
    let rams : List HeapPlace = place_if c.args.domains.ram (record { heap = c.args.index; coherency = Ram }) c.args.heap.now in
    let others : List HeapPlace = place_if c.args.domains.inaccessible (record { heap = c.args.index; coherency = Inaccessible }) c.args.heap.now in
    of_err c.from_residual.result _ _ _ c.from_residual.ensures.1 (λ y same. same)
    (first_fails (listed c.args.roll.now) told cpus rams others c.args.lines.now c.in_err-past_cpu.field-0.0 (c.in_err-past_cpu.ensures told are))

pub returns-in_err-past_ram : goal.returns-in_err-past_ram
returns-in_err-past_ram c = λ told are.
    let cpus : List HeapPlace = place_if c.args.domains.cpu (record { heap = c.args.index; coherency = Cpu }) c.args.heap.now in
    let rams : List HeapPlace = place_if c.args.domains.ram (record { heap = c.args.index; coherency = Ram }) c.args.heap.now in
    let others : List HeapPlace = place_if c.args.domains.inaccessible (record { heap = c.args.index; coherency = Inaccessible }) c.args.heap.now in
    of_err c.from_residual-in_err-past_ram.result _ _ _ c.from_residual-in_err-past_ram.ensures.1 (λ y same. same)
    (second_fails (listed c.args.roll.now) told cpus rams others c.args.lines.now c.in_err-past_ram.field-0.0 (c.in_err-past_ram.ensures _ (c.in_ok-past_cpu.ensures told are)))

pub returns : goal.returns
returns c = λ told are.
    let cpus : List HeapPlace = place_if c.args.domains.cpu (record { heap = c.args.index; coherency = Cpu }) c.args.heap.now in
    let rams : List HeapPlace = place_if c.args.domains.ram (record { heap = c.args.index; coherency = Ram }) c.args.heap.now in
    let others : List HeapPlace = place_if c.args.domains.inaccessible (record { heap = c.args.index; coherency = Inaccessible }) c.args.heap.now in
    last_told (listed c.args.roll.now) told cpus rams others c.args.lines.now c.line_fault-3.result
    (c.line_fault-3.ensures _ (c.in_ok-past_ram.ensures _ (c.in_ok-past_cpu.ensures told are)))
