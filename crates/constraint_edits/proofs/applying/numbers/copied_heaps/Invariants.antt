use Rattle.std.proofs.Common.{◌≡◌, take}
use Rattle.constraint_edits.proofs.applying.numbers.copied_heaps.Given as goal

abbrev pub invariant-loop-heap : goal.invariant-loop-heap
invariant-loop-heap l = l.copy.items ≡ take l.heap-index l.heaps
