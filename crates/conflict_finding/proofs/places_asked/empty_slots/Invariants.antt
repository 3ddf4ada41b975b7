-- Nothing is in any slot so far.
use Rattle.std.proofs.Common.{List}
use Rattle.sysmem_memory.specs.Heap.{HeapFacts}
use Rattle.sysmem_tree.specs.Node.{NodeFacts}
use Rattle.conflict_finding.specs.PlacesAsked.{AreSlots}
use Rattle.conflict_finding.proofs.places_asked.empty_slots.Given as goal

abbrev pub invariant-loop-slot : goal.invariant-loop-slot
invariant-loop-slot l = (nodes : List NodeFacts) (heaps : List HeapFacts) → AreSlots nodes heaps l.slots.items
