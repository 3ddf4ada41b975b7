use Rattle.std.proofs.Common.{◌≡◌, take}
use Rattle.std.specs.Prelude.{map}
use Rattle.constraint_edits.specs.EditedBounds.{entry_exchanged}
use Rattle.constraint_edits.proofs.applying.bounds.bounds_exchanged.Given as goal

abbrev pub invariant-loop-entry : goal.invariant-loop-entry
invariant-loop-entry l = l.made.items ≡ map (entry_exchanged l.least l.most) (take l.entry-index l.entries)
