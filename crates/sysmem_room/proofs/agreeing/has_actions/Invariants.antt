use Rattle.std.proofs.Common.{◌≤◌, length}
use Rattle.sysmem_room.proofs.Reading.{Left}
use Rattle.sysmem_room.proofs.agreeing.has_actions.Given as goal

abbrev pub invariant-loop-entry : goal.invariant-loop-entry
invariant-loop-entry l = record {
  within : l.at ≤ length l.actions;
  left : Left l.tree.nodes l.node l.entries l.actions l.entry-index l.at;
}
