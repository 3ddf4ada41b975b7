use Rattle.std.proofs.Common.{◌≡◌, ◌≤◌, ◌+◌, drop, map}
use Rattle.sysmem_alloc.specs.Entry.{entry_in}
use Rattle.sysmem_room.specs.Counting.{actions_in}
use Rattle.sysmem_participants.proofs.agreeing.actions_of.Given as goal

abbrev pub invariant-loop-entry : goal.invariant-loop-entry
invariant-loop-entry l = record {
  counted : l.actions + actions_in (map (entry_in l.book.state.tree.nodes) (drop l.entry-index l.entries)) ≡ actions_in (map (entry_in l.book.state.tree.nodes) l.entries);
  within : l.actions ≤ l.entry-index;
}
