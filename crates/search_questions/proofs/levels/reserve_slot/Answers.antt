-- A slot more, in which nothing is.
use Rattle.std.proofs.Common.{◌+◌, None, [], ◌∷◌, length, slice_get, length-append, sym, ◌∙◌, ap, subst}
use Rattle.search_questions.specs.Standing.{IsFilled}
use Rattle.search_questions.proofs.Entering.{filled_more, kept_before}
use Rattle.search_questions.proofs.levels.reserve_slot.Goals as goal

pub loop-more-preserved : goal.loop-more-preserved
loop-more-preserved c = record {
  many = ap length c.in_ok-push.ensures.items ∙ (length-append c.loop-more.parts.items (None ∷ []) ∙ ap (λ n. n + 1) c.loop-more.invariant.many);
  filled = λ at filled. subst (λ xs. IsFilled xs at) (sym c.in_ok-push.ensures.items) (filled_more c.loop-more.parts.items at (c.loop-more.invariant.filled at filled));
  kept = λ at part is. c.loop-more.invariant.kept at part (kept_before c.loop-more.parts.items at part (ap (λ xs. slice_get xs at) (sym c.in_ok-push.ensures.items) ∙ is));
}

pub returns-in_err-push-clause-filled : goal.returns-in_err-push-clause-filled
returns-in_err-push-clause-filled c = λ at filled. subst (λ xs. IsFilled xs at) (sym c.in_err-push.ensures.items) (c.loop-more.invariant.filled at filled)
