-- The choices for the next group that were gone through.
use Rattle.std.proofs.Common.{◌≡◌, ◌-◌, length}
use Rattle.std.specs.Prelude.{IfSome}
use Rattle.verdict_claims.specs.Matter.{forest}
use Rattle.search_questions.proofs.CallerLemmas.{GoneThrough}
use Rattle.sysmem_tree.specs.Selection.{after}
use Rattle.sysmem_search.proofs.searching.+search_from.Given as goal

abbrev pub decreases-search_from : goal.decreases-search_from
decreases-search_from g l = 128 - length l.question.now.choices

abbrev pub invariant-loop-choice : goal.invariant-loop-choice
invariant-loop-choice g l = record {
  same : l.question ≡ l.fn.question;
  gone : IfSome (after (forest l.fn.question.matter) l.fn.question.choices) (λ d. GoneThrough l.fn.question.matter d l.choice l.fn.visits l.visits);
}
