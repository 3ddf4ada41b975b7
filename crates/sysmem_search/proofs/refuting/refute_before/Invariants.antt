-- The choices for the next group that were refuted.
use Rattle.std.proofs.Common.{◌≡◌}
use Rattle.std.specs.Prelude.{IfSome}
use Rattle.verdict_claims.specs.Matter.{forest}
use Rattle.sysmem_search.specs.Refuting.{RefutesFirst}
use Rattle.sysmem_tree.specs.Selection.{after}
use Rattle.sysmem_search.proofs.refuting.refute_before.Given as goal

abbrev pub invariant-loop-earlier : goal.invariant-loop-earlier
invariant-loop-earlier l = record {
  same : l.question ≡ l.fn.question;
  refuted : IfSome (after (forest l.fn.question.matter) l.fn.question.choices) (λ d. RefutesFirst l.fn.question.matter d l.earlier l.refutations.items);
}
