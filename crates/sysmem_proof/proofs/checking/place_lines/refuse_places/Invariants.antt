-- The heaps that are left want the lines that are left.
use Rattle.std.proofs.Common.{drop}
use Rattle.std.specs.Prelude.{◌↔◌}
use Rattle.std.specs.List.{AllZip}
use Rattle.sysmem_memory.specs.Listed.{places_from, places_of}
use Rattle.verdict_claims.specs.Conflict.{RefusesPlace}
use Rattle.verdict_claims.specs.Roll.{listed}
use Rattle.sysmem_proof.proofs.checking.place_lines.refuse_places.Given as goal

abbrev pub invariant-loop-heap : goal.invariant-loop-heap
invariant-loop-heap l = AllZip (RefusesPlace (listed l.roll)) (places_of l.heaps) l.lines
    ↔ AllZip (RefusesPlace (listed l.roll)) (places_from l.heap-index (drop l.heap-index l.heaps)) (drop l.at l.lines)
