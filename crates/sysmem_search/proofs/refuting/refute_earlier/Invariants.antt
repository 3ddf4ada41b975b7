-- The choices that were made, and refutations of what is earlier up to there.
use Rattle.std.proofs.Common.{◌≡◌, take}
use Rattle.sysmem_search.proofs.Refuted.{OnWay}
use Rattle.sysmem_search.proofs.refuting.refute_earlier.Given as goal

abbrev pub invariant-loop-choice : goal.invariant-loop-choice
invariant-loop-choice l = record {
  same : l.question ≡ record { matter = l.fn.question.matter; choices = take l.choice-index l.selection };
  way : OnWay l.fn.question.matter l.selection l.choice-index l.earlier.items;
}
