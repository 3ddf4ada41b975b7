-- Nothing is in any slot but those that were there.
use Rattle.std.proofs.Common.{List}
use Rattle.sysmem_tree.specs.Node.{NodeFacts}
use Rattle.conflict_finding.specs.AloneLines.{AreInSlots}
use Rattle.conflict_finding.proofs.alone_lines.reserve_slot.Given as goal

abbrev pub invariant-loop-more : goal.invariant-loop-more
invariant-loop-more l = (nodes : List NodeFacts) → AreInSlots nodes l.fn.slots.items → AreInSlots nodes l.slots.items
