-- The places of the heaps so far are told.
use Rattle.std.proofs.Common.{take}
use Rattle.sysmem_memory.specs.Listed.{places_of}
use Rattle.sysmem_proof.specs.PlacesBefore.{AreTold}
use Rattle.verdict_claims.specs.Roll.{listed}
use Rattle.sysmem_proof.proofs.checking.places_before.place_lines_fault.Given as goal

abbrev pub invariant-loop-index : goal.invariant-loop-index
invariant-loop-index l = AreTold (listed l.roll) (places_of (take l.index l.heaps)) l.lines l.many
