-- Selections by their choices.
use Rattle.std.proofs.Common.{◌≡◌, inl, inr, ℕ, List, [], ◌∷◌, ◌++◌, Some, slice_get, refl, sym, ◌∙◌, ap, subst}
use Rattle.std.proofs.lemmas.Option.{same_Some}
use Rattle.sysmem_tree.specs.Forest.{choices}
use Rattle.sysmem_tree.specs.Selection.{IsSelection}
use Rattle.verdict_claims.specs.Laws.{SelectionsSplit, GoesBy, EarlierGoesBy}
use Rattle.verdict_claims.proofs.Walks.{after_choice, whole_alone, begins, joins, goes_on}

pub selections_split : SelectionsSplit
selections_split d = record {
  whole = λ none cs f. (λ s. whole_alone d f cs none s, λ is. rw is.0 (record { leads = ap (λ x. Some x) is.1; whole = sym (ap choices is.1) ∙ none }));
  split = λ es open' cs f. (λ s. begins d f es cs open' s, λ b. rw b.is (joins d b.left f es b.choice b.rest open' b.here b.goes_on));
}

both : (i c : ℕ) (xs ys : List ℕ) → i ≡ c → xs ≡ ys → c ∷ xs ≡ i ∷ ys
both i c xs ys a b = cc (a, b)

pub earlier_goes_by : EarlierGoesBy
earlier_goes_by d e f selection [] a b earlier = absurd earlier
earlier_goes_by d e f [] (i ∷ other) a b earlier = absurd earlier
earlier_goes_by d e f (c ∷ selection) (i ∷ other) a b (inl less) = goes_on (GoesBy d (i ∷ other) (c ∷ selection) f) d f i other b (λ es x open' here on. record {
  same = [];
  lower = i;
  higher = c;
  rest = other;
  more = selection;
  this = refl;
  that = refl;
  less = less;
  passed = x;
  leads = after_choice d x f es i [] open' here;
  goes_on = on;
})
earlier_goes_by d e f (c ∷ selection) (i ∷ other) a b (inr later) =
    goes_on (GoesBy d (i ∷ other) (c ∷ selection) f) d f i other b (λ es x open' here on.
    goes_on (GoesBy d (i ∷ other) (c ∷ selection) f) d e c selection a (λ fs y open2 there on2.
    let one : y ≡ x = same_Some y x (sym there ∙ (ap (λ zs. slice_get zs c) (same_Some fs es (sym open2 ∙ open')) ∙ (ap (slice_get es) (sym later.0) ∙ here))) in
    let inner : GoesBy x other selection f = earlier_goes_by x e f selection other (subst (λ z. IsSelection z selection e) one on2) on later.1 in
    record {
      same = i ∷ inner.same;
      lower = inner.lower;
      higher = inner.higher;
      rest = inner.rest;
      more = inner.more;
      this = both i i other (inner.same ++ inner.lower ∷ inner.rest) refl inner.this;
      that = both i c selection (inner.same ++ inner.higher ∷ inner.more) later.0 inner.that;
      less = inner.less;
      passed = inner.passed;
      leads = after_choice d x inner.passed es i (inner.same ++ inner.lower ∷ []) open' here ∙ inner.leads;
      goes_on = inner.goes_on;
    }))
