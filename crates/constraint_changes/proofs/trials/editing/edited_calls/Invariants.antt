use Rattle.std.proofs.Common.{take}
use Rattle.std.specs.Prelude.{map}
use Rattle.script_reading.specs.Seen.{call_seen}
use Rattle.constraint_changes.specs.Edited.{AreEdited, edits_of}
use Rattle.constraint_changes.proofs.trials.editing.edited_calls.Given as goal

abbrev pub invariant-loop-edit : goal.invariant-loop-edit
invariant-loop-edit l = AreEdited l.heaps (map call_seen l.calls) (edits_of (take l.edit-index l.edits)) (map call_seen l.made.items)
