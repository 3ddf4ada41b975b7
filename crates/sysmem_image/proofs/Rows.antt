-- Merging number by number.
use Rattle.std.proofs.Common.{◌≡◌, ◌↔◌, ℕ, List, [], ◌∷◌, ◌++◌, Some, refl, sym, subst}
use Rattle.std.specs.Prelude.{All}
use Rattle.std.proofs.lemmas.List.Elements.{All-nil, All-push, All-pop}
use Rattle.sysmem_formats.specs.declared.offer.Offer.{Offer}
use Rattle.sysmem_image.specs.declared.bounds.ImageBounds.{ImageBounds}
use Rattle.sysmem_image.specs.Fields.{Rule, Keeps, rule_of, value, own_value}
use Rattle.sysmem_image.specs.Bounds.{IsInRange, IsOwn}
use Rattle.sysmem_image.specs.Merged.{IsMergeOf, MergedOf, IsMerged, IsMergedBy}
use Rattle.sysmem_image.proofs.Meets.{keeps_refl, keeps_trans, keeps_both, keeps_meet}

-- what holds of each of a longer list
pub both_pop : {X : Type 0} (P : X → Type 0) (es : List X) (e : X) → All P (es ++ e ∷ []) → All P es × P e
both_pop P es e all = All-pop P (es ++ e ∷ []) es (Some e) refl all

-- the own value stands for the empty list
pub none_of : {X : Type 0} (R : ℕ → ℕ → Type 0) (own : ℕ) (f : X → ℕ) (m : ℕ) → R own m → ((n : ℕ) → R own n → R m n) → IsMergeOf R own f [] m
none_of R own f m suits loose = record {
  suits = suits;
  exactly = λ n kept. (λ h. All-nil (λ e. R (f e) n), λ all. loose n kept);
}

-- what stands for a list and one more
pub more_of : {X : Type 0} (R : ℕ → ℕ → Type 0) (own : ℕ) (f : X → ℕ) (es : List X) (e : X) (m m' : ℕ) → ((n : ℕ) → R m' n ↔ (R m n × R (f e) n)) → R own m' → IsMergeOf R own f es m → IsMergeOf R own f (es ++ e ∷ []) m'
more_of R own f es e m m' meet suits old = record {
  suits = suits;
  exactly = λ n kept. (
    λ h. let both = (meet n).0 h in All-push (λ x. R (f x) n) es e ((old.exactly n kept).0 both.0) both.1,
    λ all. let parts = both_pop (λ x. R (f x) n) es e all in (meet n).1 ((old.exactly n kept).1 parts.0, parts.1),
  );
}

-- what was merged of a number that stands for a list and one more
pub more_by : {X : Type 0} (r : Rule) (own : ℕ) (f : X → ℕ) (es : List X) (e : X) (m m' : ℕ) → IsMergedBy r m (f e) m' → IsMergeOf (Keeps r) own f es m → IsMergeOf (Keeps r) own f (es ++ e ∷ []) m'
more_by r own f es e m m' is old =
    more_of (Keeps r) own f es e m m' (λ n. keeps_meet r m (f e) m' n is)
    (keeps_trans r m' m own ((keeps_meet r m (f e) m' m' is).0 (keeps_refl r m')).0 old.suits) old

-- merged bounds stand for the list and one more
pub merged_more : (o : Offer) (es : List ImageBounds) (a b m : ImageBounds) → IsMerged a b m → IsInRange m → MergedOf o es a → MergedOf o (es ++ b ∷ []) m
merged_more o es a b m is in_range old = record {
  in_range = in_range;
  each = λ f d. more_by (rule_of f) (own_value o f d) (value f d) es b (value f d a) (value f d m) (is f d) (old.each f d);
}

-- a number equal to the own value stands for the empty list
pub same_own : {X : Type 0} (r : Rule) (own : ℕ) (f : X → ℕ) (m : ℕ) → m ≡ own → IsMergeOf (Keeps r) own f [] m
same_own r own f m is = none_of (Keeps r) own f m (subst (λ z. Keeps r own z) (sym is) (keeps_refl r own)) (λ n kept. subst (λ z. Keeps r z n) (sym is) kept)

-- own bounds stand for the empty list
pub own_merged : (o : Offer) (b : ImageBounds) → IsOwn o b → IsInRange b → MergedOf o [] b
own_merged o b own in_range = record {
  in_range = in_range;
  each = λ f d. same_own (rule_of f) (own_value o f d) (value f d) (value f d b) (own f d);
}

-- a number that stands for the empty list is the own value
pub own_of_none : {X : Type 0} (r : Rule) (own : ℕ) (f : X → ℕ) (m : ℕ) → IsMergeOf (Keeps r) own f [] m → m ≡ own
own_of_none r own f m merge = keeps_both r m own ((merge.exactly own (keeps_refl r own)).1 (All-nil (λ e. Keeps r (f e) own))) merge.suits

-- bounds that stand for the empty list are the offer's own
pub merged_own : (o : Offer) (b : ImageBounds) → MergedOf o [] b → IsOwn o b
merged_own o b merged = λ f d. own_of_none (rule_of f) (own_value o f d) (value f d) (value f d b) (merged.each f d)
