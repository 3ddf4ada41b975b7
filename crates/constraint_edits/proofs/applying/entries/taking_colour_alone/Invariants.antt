use Rattle.std.proofs.Common.{◌≡◌, take}
use Rattle.std.specs.Prelude.{map}
use Rattle.constraint_edits.specs.Edited.{taking_alone}
use Rattle.constraint_edits.proofs.applying.entries.taking_colour_alone.Given as goal

abbrev pub invariant-loop-entry : goal.invariant-loop-entry
invariant-loop-entry l = l.made.items ≡ map (taking_alone l.colour) (take l.entry-index l.entries)
