use Rattle.std.proofs.Common.{◌≡◌, Some, take}
use Rattle.constraint_edits.specs.Drafts.{drafted}
use Rattle.constraint_edits.specs.Edited.{edited_by}
use Rattle.constraint_edits.proofs.change.apply_all.Given as goal

abbrev pub invariant-loop-change : goal.invariant-loop-change
invariant-loop-change l =
    edited_by l.heaps (take l.change-index l.changes) l.asked ≡ Some (drafted l.draft)
