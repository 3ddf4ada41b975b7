-- Lines that are the one before once more stay so where lines are put behind them.
use Rattle.std.proofs.Common.{arith, ℕ, suc, ◌≡◌, ◌-◌, List, [], ◌∷◌, ◌++◌, All, Some, length, slice_get, refl, sym, ap, subst, ◌∙◌}
use Rattle.std.proofs.lemmas.List.Elements.{All-append, All-cons, All-nil, All-weaker}
use Rattle.std.proofs.lemmas.Option.{slice_get_within}
use Rattle.list_lemmas.proofs.CallerLemmas.{slice_get-append_add, slice_get-append_left}
use Rattle.verdict_claims.specs.Line.{IsAgain, LineFacts}

again_before : (lines more : List LineFacts) (at : ℕ) → IsAgain lines at → IsAgain (lines ++ more) at
again_before lines more at is = record {
  before = is.before;
  next = is.next;
  line = is.line;
  first = slice_get-append_left lines more is.before (slice_get_within lines is.before is.line is.first) ∙ is.first;
  same = slice_get-append_left lines more at (slice_get_within lines at is.line is.same) ∙ is.same;
}

-- those that were known stay so
pub all_again : (lines more : List LineFacts) (again : List ℕ) → All (IsAgain lines) again → All (IsAgain (lines ++ more)) again
all_again lines more again all = All-weaker (IsAgain lines) (IsAgain (lines ++ more)) (again_before lines more) again all

-- the last line put behind all is one more
pub last_again : (lines : List LineFacts) (last : LineFacts) (before : ℕ) → length lines ≡ suc before → slice_get lines before ≡ Some last → IsAgain (lines ++ last ∷ []) (length lines)
last_again lines last before many is = record {
  before = before;
  next = many;
  line = last;
  first = slice_get-append_left lines (last ∷ []) before (omega (arith, many)) ∙ is;
  same = ap (λ k. slice_get (lines ++ last ∷ []) k) (omega arith) ∙ slice_get-append_add lines (last ∷ []) (length lines) 0 refl;
}

-- so all are known with it
one_again : (lines : List LineFacts) (last : LineFacts) (again : List ℕ) (before : ℕ) → length lines ≡ suc before → slice_get lines before ≡ Some last → All (IsAgain lines) again
    → All (IsAgain (lines ++ last ∷ [])) (again ++ length lines ∷ [])
one_again lines last again before many is all =
    All-append (IsAgain (lines ++ last ∷ [])) again (length lines ∷ []) (all_again lines (last ∷ []) again all)
    (All-cons (IsAgain (lines ++ last ∷ [])) (length lines) [] (last_again lines last before many is) (All-nil (IsAgain (lines ++ last ∷ []))))

-- the same of lists that are made so
pub once_more : (lines now : List LineFacts) (last : LineFacts) (again kept marked : List ℕ) (at : ℕ) → slice_get lines (length lines - 1) ≡ Some last → now ≡ lines ++ last ∷ []
    → kept ≡ again → marked ≡ kept ++ at ∷ [] → at ≡ length lines → All (IsAgain lines) again → All (IsAgain now) marked
once_more lines now last again kept marked at is more same mark here all =
    let inside = slice_get_within lines (length lines - 1) last is in
    let many : length lines ≡ suc (length lines - 1) = omega (arith, inside) in
    subst (λ ls. All (IsAgain ls) marked) (sym more) (subst (All (IsAgain (lines ++ last ∷ []))) (sym (mark ∙ ap (λ ks. ks ++ at ∷ []) same ∙ ap (λ k. again ++ k ∷ []) here))
    (one_again lines last again (length lines - 1) many is all))

-- and where no place is put with them
pub none_more : (lines now : List LineFacts) (last : LineFacts) (again kept : List ℕ) → now ≡ lines ++ last ∷ [] → kept ≡ again → All (IsAgain lines) again → All (IsAgain now) kept
none_more lines now last again kept more same all =
    subst (λ ls. All (IsAgain ls) kept) (sym more) (subst (All (IsAgain (lines ++ last ∷ []))) (sym same) (all_again lines (last ∷ []) again all))
