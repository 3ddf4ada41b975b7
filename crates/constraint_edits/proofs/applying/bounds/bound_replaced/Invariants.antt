use Rattle.std.proofs.Common.{◌≡◌, take}
use Rattle.std.specs.Prelude.{map}
use Rattle.constraint_edits.specs.Drafts.{size_of}
use Rattle.constraint_edits.specs.EditedBounds.{value_replaced}
use Rattle.constraint_edits.proofs.applying.bounds.bound_replaced.Given as goal

abbrev pub invariant-loop-entry : goal.invariant-loop-entry
invariant-loop-entry l = l.made.items
    ≡ map (value_replaced l.given.field (size_of l.own) (size_of l.given.value)) (take l.entry-index l.entries)
