use Rattle.std.proofs.Common.{◌≡◌, List, map, take}
use Rattle.sysmem_alloc.specs.Entry.{entry_in}
use Rattle.sysmem_tree.specs.Node.{NodeFacts}
use Rattle.live_book.proofs.snapshot.copied_history.Given as goal

abbrev pub invariant-loop-entry : goal.invariant-loop-entry
invariant-loop-entry l = (nodes : List NodeFacts) → map (entry_in nodes) l.copy.items ≡ map (entry_in nodes) (take l.entry-index l.history)
