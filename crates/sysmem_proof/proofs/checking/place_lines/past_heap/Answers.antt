-- The places of a heap, one after the other.
use Rattle.std.proofs.Common.{ap}
use Rattle.sysmem_memory.specs.Heap.{HeapFacts}
use Rattle.verdict_claims.specs.Roll.{listed}
use Rattle.sysmem_proof.proofs.Past.{heap_done}
use Rattle.sysmem_proof.proofs.checking.place_lines.past_heap.Goals as goal

pub returns : goal.returns
returns c = λ i heaps. heap_done (listed c.args.roll.now) c.args.lines.now c.args.heap.now c.heap.inside.domains i heaps c.args.at c.in_ok-cpu.cpu c.in_ok-ram.ram c.past_place.result c.past_place-2.result c.past_place-3.result
    (ap (λ (h : HeapFacts). h.domains) c.heap.view_is) c.in_ok-cpu.was c.in_ok-ram.was c.past_place.ensures c.past_place-2.ensures c.past_place-3.ensures
