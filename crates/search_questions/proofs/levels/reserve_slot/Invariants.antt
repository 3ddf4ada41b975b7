-- So many slots, and nothing in the new ones.
use Rattle.std.proofs.Common.{ℕ, ◌≡◌, Some, length, slice_get}
use Rattle.search_questions.specs.declared.kept.ChoiceShare.{ChoiceShare}
use Rattle.search_questions.specs.Standing.{IsFilled}
use Rattle.search_questions.proofs.levels.reserve_slot.Given as goal

abbrev pub invariant-loop-more : goal.invariant-loop-more
invariant-loop-more l = record {
  many : length l.parts.items ≡ l._more;
  filled : (at : ℕ) → IsFilled l.fn.parts.items at → IsFilled l.parts.items at;
  kept : (at : ℕ) (part : ChoiceShare) → slice_get l.parts.items at ≡ Some (Some part) → slice_get l.fn.parts.items at ≡ Some (Some part);
}
