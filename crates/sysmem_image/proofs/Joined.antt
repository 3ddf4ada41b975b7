-- Bounds that were merged of two lists.
use Rattle.std.proofs.Common.{◌≡◌, ◌↔◌, ℕ, List, [], ◌∷◌, ◌++◌, sym, subst}
use Rattle.std.specs.Prelude.{All}
use Rattle.std.specs.Int.{◌∣◌}
use Rattle.std.proofs.lemmas.List.Elements.{All-append, All-push, All-nil, All-cons, All-head, All-tail}
use Rattle.sysmem_counts.specs.declared.field.Field.{Field}
use Rattle.sysmem_counts.specs.declared.field.Field.TheVariants.{SizeAlignment, BytesPerRowDivisor, StartOffsetDivisor, DisplayRectAlignment}
use Rattle.sysmem_formats.specs.declared.offer.Offer.{Offer}
use Rattle.sysmem_image.specs.declared.bounds.ImageBounds.{ImageBounds}
use Rattle.sysmem_image.specs.Fields as bound
use Rattle.sysmem_image.specs.Fields.{Bound, Side, Rule, Multiple, Keeps, rule_of, value, own_value}
use Rattle.sysmem_image.specs.Bounds.{IsInRange, IsOwn}
use Rattle.sysmem_image.specs.Lines.{MeetsIn, IsBoundsLine, IsFirstLine, IsSteady}
use Rattle.sysmem_image.specs.Merged.{IsMergeOf, MergedOf, IsMerged, IsMergedBy, IsFirstAbove}
use Rattle.sysmem_image.proofs.Meets.{keeps_refl, keeps_trans, keeps_meet}
use Rattle.sysmem_image.proofs.Rows.{both_pop}
use Rattle.sysmem_image.proofs.Steps.{above_line}

-- what holds of each of two lists together holds of each of both
pub all_parts : {X : Type 0} (P : X → Type 0) (xs ys : List X) → All P (xs ++ ys) → All P xs × All P ys
all_parts P [] ys all = (All-nil P, all)
all_parts P (x ∷ xs) ys all =
    let rest = all_parts P xs ys (All-tail P x (xs ++ ys) all) in (All-cons P x xs (All-head P x (xs ++ ys) all) rest.0, rest.1)

-- what was merged of two numbers stands for the lists of both
both_by : {X : Type 0} (r : Rule) (own : ℕ) (f : X → ℕ) (es fs : List X) (a b m : ℕ) → IsMergedBy r a b m → IsMergeOf (Keeps r) own f es a → IsMergeOf (Keeps r) own f fs b → IsMergeOf (Keeps r) own f (es ++ fs) m
both_by r own f es fs a b m is left right = record {
  suits = keeps_trans r m a own ((keeps_meet r a b m m is).0 (keeps_refl r m)).0 left.suits;
  exactly = λ n kept. (
    λ h. let both = (keeps_meet r a b m n is).0 h in All-append (λ e. Keeps r (f e) n) es fs ((left.exactly n kept).0 both.0) ((right.exactly n kept).0 both.1),
    λ all. let parts = all_parts (λ e. Keeps r (f e) n) es fs all in
        (keeps_meet r a b m n is).1 ((left.exactly n kept).1 parts.0, (right.exactly n kept).1 parts.1),
  );
}

-- merged bounds stand for both lists
pub merged_both : (o : Offer) (es fs : List ImageBounds) (a b m : ImageBounds) → IsMerged a b m → IsInRange m → MergedOf o es a → MergedOf o fs b → MergedOf o (es ++ fs) m
merged_both o es fs a b m is in_range left right = record {
  in_range = in_range;
  each = λ f d. both_by (rule_of f) (own_value o f d) (value f d) es fs (value f d a) (value f d b) (value f d m) (is f d) (left.each f d) (right.each f d);
}

-- bounds that stand for a list have common multiples with another exactly where the list has
meets_with : (f : Bound) (o : Offer) (es fs : List ImageBounds) (b : ImageBounds) → ((d : Side) → IsMergeOf (Keeps Multiple) (own_value o f d) (value f d) fs (value f d b))
    → MeetsIn f o (es ++ fs) ↔ MeetsIn f o (es ++ b ∷ [])
meets_with f o es fs b old = (
  λ meet d. let c = meet d in let parts = all_parts (λ e. value f d e ∣ c.0) es fs c.1.each in (
    c.0,
    record {
      some = c.1.some;
      small = c.1.small;
      own = c.1.own;
      each = All-push (λ e. value f d e ∣ c.0) es b parts.0 (((old d).exactly c.0 c.1.own).1 parts.1);
    },
  ),
  λ meet d. let c = meet d in let parts = both_pop (λ e. value f d e ∣ c.0) es b c.1.each in (
    c.0,
    record {
      some = c.1.some;
      small = c.1.small;
      own = c.1.own;
      each = All-append (λ e. value f d e ∣ c.0) es fs parts.0 (((old d).exactly c.0 c.1.own).0 parts.1);
    },
  ),
)

-- so a line that has no common multiple of a list and bounds has none of both lists
unmet_with : (f : Bound) (o : Offer) (es fs : List ImageBounds) (b : ImageBounds) → ((d : Side) → IsMergeOf (Keeps Multiple) (own_value o f d) (value f d) fs (value f d b))
    → (¬ MeetsIn f o (es ++ b ∷ [])) → ¬ MeetsIn f o (es ++ fs)
unmet_with f o es fs b old unmet meet = unmet ((meets_with f o es fs b old).0 meet)

-- and where there is one there is one
met_with : (f : Bound) (o : Offer) (es fs : List ImageBounds) (b : ImageBounds) → ((d : Side) → IsMergeOf (Keeps Multiple) (own_value o f d) (value f d) fs (value f d b))
    → (¬ (¬ MeetsIn f o (es ++ b ∷ []))) → ¬ (¬ MeetsIn f o (es ++ fs))
met_with f o es fs b old met unmet = met (λ meet. unmet ((meets_with f o es fs b old).1 meet))

-- the first field whose common multiple is above the limit heads the
-- first line that is true of both lists
pub above_both : (f : Field) (o : Offer) (es fs : List ImageBounds) (a b : ImageBounds) → IsFirstAbove f a b → MergedOf o es a → MergedOf o fs b → IsFirstLine f o (es ++ fs)
above_both SizeAlignment o es fs a b above left right = let l = above_line SizeAlignment o es a b above left in record {
  line = unmet_with bound.SizeAlignment o es fs b (right.each bound.SizeAlignment) l.line;
  before = tt;
}
above_both BytesPerRowDivisor o es fs a b above left right = let l = above_line BytesPerRowDivisor o es a b above left in record {
  line = unmet_with bound.BytesPerRowDivisor o es fs b (right.each bound.BytesPerRowDivisor) l.line;
  before = (met_with bound.SizeAlignment o es fs b (right.each bound.SizeAlignment) l.before.0, tt);
}
above_both StartOffsetDivisor o es fs a b above left right = let l = above_line StartOffsetDivisor o es a b above left in record {
  line = unmet_with bound.StartOffsetDivisor o es fs b (right.each bound.StartOffsetDivisor) l.line;
  before = (
    met_with bound.SizeAlignment o es fs b (right.each bound.SizeAlignment) l.before.0,
    (met_with bound.BytesPerRowDivisor o es fs b (right.each bound.BytesPerRowDivisor) l.before.1.0, tt),
  );
}
above_both DisplayRectAlignment o es fs a b above left right = let l = above_line DisplayRectAlignment o es a b above left in record {
  line = unmet_with bound.DisplayRectAlignment o es fs b (right.each bound.DisplayRectAlignment) l.line;
  before = (
    met_with bound.SizeAlignment o es fs b (right.each bound.SizeAlignment) l.before.0,
    (
      met_with bound.BytesPerRowDivisor o es fs b (right.each bound.BytesPerRowDivisor) l.before.1.0,
      (met_with bound.StartOffsetDivisor o es fs b (right.each bound.StartOffsetDivisor) l.before.1.1.0, tt),
    ),
  );
}
above_both _ o es fs a b above left right = absurd above

-- common multiples of both lists are common to each
meets_parts : (f : Bound) (o : Offer) (es fs : List ImageBounds) → MeetsIn f o (es ++ fs) → MeetsIn f o es × MeetsIn f o fs
meets_parts f o es fs meet = (
  λ d. let c = meet d in (c.0, record { some = c.1.some; small = c.1.small; own = c.1.own; each = (all_parts (λ e. value f d e ∣ c.0) es fs c.1.each).0 }),
  λ d. let c = meet d in (c.0, record { some = c.1.some; small = c.1.small; own = c.1.own; each = (all_parts (λ e. value f d e ∣ c.0) es fs c.1.each).1 }),
)

-- a line about a common multiple that is true of one of two lists is true of both together
pub steady_first : (f : Field) → IsSteady f → (o : Offer) (es fs : List ImageBounds) → IsBoundsLine f o es → IsBoundsLine f o (es ++ fs)
steady_first SizeAlignment steady o es fs line = λ meet. line (meets_parts bound.SizeAlignment o es fs meet).0
steady_first BytesPerRowDivisor steady o es fs line = λ meet. line (meets_parts bound.BytesPerRowDivisor o es fs meet).0
steady_first StartOffsetDivisor steady o es fs line = λ meet. line (meets_parts bound.StartOffsetDivisor o es fs meet).0
steady_first DisplayRectAlignment steady o es fs line = λ meet. line (meets_parts bound.DisplayRectAlignment o es fs meet).0
steady_first _ steady o es fs line = absurd steady

pub steady_second : (f : Field) → IsSteady f → (o : Offer) (es fs : List ImageBounds) → IsBoundsLine f o fs → IsBoundsLine f o (es ++ fs)
steady_second SizeAlignment steady o es fs line = λ meet. line (meets_parts bound.SizeAlignment o es fs meet).1
steady_second BytesPerRowDivisor steady o es fs line = λ meet. line (meets_parts bound.BytesPerRowDivisor o es fs meet).1
steady_second StartOffsetDivisor steady o es fs line = λ meet. line (meets_parts bound.StartOffsetDivisor o es fs meet).1
steady_second DisplayRectAlignment steady o es fs line = λ meet. line (meets_parts bound.DisplayRectAlignment o es fs meet).1
steady_second _ steady o es fs line = absurd steady

-- the offer's own bounds add nothing to a number that stands for a list
own_adds : {X : Type 0} (r : Rule) (own : ℕ) (f : X → ℕ) (es fs : List X) (a b : ℕ) → b ≡ own → IsMergeOf (Keeps r) own f es a → IsMergeOf (Keeps r) own f fs b → IsMergeOf (Keeps r) own f (es ++ fs) a
own_adds r own f es fs a b is left right = record {
  suits = left.suits;
  exactly = λ n kept. (
    λ h. All-append (λ e. Keeps r (f e) n) es fs ((left.exactly n kept).0 h) ((right.exactly n kept).0 (subst (λ z. Keeps r z n) (sym is) kept)),
    λ all. (left.exactly n kept).1 (all_parts (λ e. Keeps r (f e) n) es fs all).0,
  );
}

-- nor to bounds that do
pub own_adds_nothing : (o : Offer) (es fs : List ImageBounds) (a b : ImageBounds) → IsOwn o b → MergedOf o es a → MergedOf o fs b → MergedOf o (es ++ fs) a
own_adds_nothing o es fs a b own left right = record {
  in_range = left.in_range;
  each = λ f d. own_adds (rule_of f) (own_value o f d) (value f d) es fs (value f d a) (value f d b) (own f d) (left.each f d) (right.each f d);
}
