-- The calls so far are told.
use Rattle.std.proofs.Common.{map, take}
use Rattle.live_script.specs.Calls.{IsToldOf}
use Rattle.sysmem_alloc.specs.Entry.{entry_in}
use Rattle.live_script.proofs.script.written.Given as goal

abbrev pub invariant-loop-entry : goal.invariant-loop-entry
invariant-loop-entry l = IsToldOf l.fn.snapshot l.writer l.nodes (map (entry_in l.fn.snapshot.tree.nodes) (take l.entry-index l.history))
