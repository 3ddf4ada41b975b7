-- The choices for the next group that were refuted.
use Rattle.std.proofs.Common.{◌≡◌, ◌-◌, length}
use Rattle.std.specs.Prelude.{IfSome}
use Rattle.verdict_claims.specs.Matter.{forest}
use Rattle.sysmem_search.proofs.Refuted.{AddsChoices}
use Rattle.sysmem_tree.specs.Selection.{after}
use Rattle.sysmem_search.proofs.refuting.+refute_from.Given as goal

abbrev pub decreases-refute_from : goal.decreases-refute_from
decreases-refute_from l = 128 - length l.question.now.choices

abbrev pub invariant-loop-choice : goal.invariant-loop-choice
invariant-loop-choice l = record {
  same : l.question ≡ l.fn.question;
  added : IfSome (after (forest l.fn.question.matter) l.fn.question.choices) (λ d. AddsChoices l.fn.question.matter d l.choice l.fn.items.items l.items.items);
}
