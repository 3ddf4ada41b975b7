-- The places of the heaps so far.
use Rattle.std.proofs.Common.{◌≡◌, ◌≤◌, ◌*◌, length, take}
use Rattle.sysmem_memory.specs.Listed.{places_of}
use Rattle.sysmem_proof.proofs.checking.fixed_faults.count_places.Given as goal

abbrev pub invariant-loop-heap : goal.invariant-loop-heap
invariant-loop-heap l = record {
  many : l.many ≡ length (places_of (take l.heap-index l.heaps));
  few : l.many ≤ 3 * l.heap-index;
}
