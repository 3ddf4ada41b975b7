-- Common multiples of lists of bounds, and lines that stay true.
use Rattle.std.proofs.Common.{ℕ, ◌<◌, ◌≤◌, ◌⊎◌, List, [], ◌∷◌, ◌++◌, arith, inl, inr}
use Rattle.std.specs.Prelude.{All}
use Rattle.std.specs.Int.{◌∣◌}
use Rattle.std.proofs.lemmas.List.Elements.{All-push}
use Rattle.std.proofs.lemmas.Nat.Gcd.{dvd_trans, dvd_refl}
use Rattle.sysmem_counts.specs.declared.field.Field.{Field}
use Rattle.sysmem_counts.specs.declared.field.Field.TheVariants.{SizeAlignment, BytesPerRowDivisor, StartOffsetDivisor, DisplayRectAlignment}
use Rattle.sysmem_formats.specs.declared.offer.Offer.{Offer}
use Rattle.sysmem_image.specs.declared.bounds.ImageBounds.{ImageBounds}
use Rattle.sysmem_image.specs.Fields as bound
use Rattle.sysmem_image.specs.Fields.{Bound, Side, Width, Height, Multiple, Keeps, value, own_value}
use Rattle.sysmem_image.specs.Multiples.{IsAboveLimit, HasMultiple}
use Rattle.sysmem_image.specs.Merged.{IsMergeOf, MergedOf, IsFirstAbove}
use Rattle.sysmem_image.specs.Lines.{HasCommon, MeetsIn, IsBoundsLine, IsFirstLine, IsSteady}
use Rattle.sysmem_image.proofs.Rows.{both_pop}
use Rattle.sysmem_counts.specs.Bounds.{most_number}

-- what follows from a fact follows of each of a list
pub all_map : {X : Type 0} (P Q : X → Type 0) (es : List X) → ((e : X) → P e → Q e) → All P es → All Q es
all_map P Q es step all = λ k d within. step _ (all k d within)

-- a merged number and one more have a common multiple: so have the list and one more
pub common_more : (own : ℕ) (f : ImageBounds → ℕ) (es : List ImageBounds) (e : ImageBounds) (m : ℕ) → IsMergeOf (Keeps Multiple) own f es m → HasMultiple m (f e) → HasCommon own f (es ++ e ∷ [])
common_more own f es e m old has =
    let kept : own ∣ has.multiple = dvd_trans own old.suits has.left in (
      has.multiple,
      record {
        some = has.some;
        small = has.small;
        own = kept;
        each = All-push (λ x. f x ∣ has.multiple) es e ((old.exactly has.multiple kept).0 has.left) has.right;
      },
    )

-- the common multiples of a merged number and one more are above
-- the limit: so are those of the list
pub none_above : (own : ℕ) (f : ImageBounds → ℕ) (es : List ImageBounds) (e : ImageBounds) (m : ℕ) → IsMergeOf (Keeps Multiple) own f es m → IsAboveLimit m (f e) → ¬ HasCommon own f (es ++ e ∷ [])
none_above own f es e m old above = λ common.
    let parts = both_pop (λ x. f x ∣ common.0) es e common.1.each in
    let limit : most_number < common.0 = above common.0 common.1.some ((old.exactly common.0 common.1.own).1 parts.0) parts.1 in
    let small : common.0 ≤ most_number = common.1.small in
    let no : ⊥ = omega arith in
    no

-- a merged number is a common multiple
pub common_merged : (own : ℕ) (f : ImageBounds → ℕ) (es : List ImageBounds) (m : ℕ) → 1 ≤ m → m ≤ most_number → IsMergeOf (Keeps Multiple) own f es m → HasCommon own f es
common_merged own f es m some small old = (
  m,
  record {
    some = some;
    small = small;
    own = old.suits;
    each = (old.exactly m old.suits).0 (dvd_refl m);
  },
)

-- a number that suits the offer and is a multiple of each of a list is a common multiple
pub common_kept : (own : ℕ) (f : ImageBounds → ℕ) (es : List ImageBounds) (n : ℕ) → 1 ≤ n → n ≤ most_number → own ∣ n → All (λ e. f e ∣ n) es → HasCommon own f es
common_kept own f es n some small suits each = (n, record { some = some; small = small; own = suits; each = each })

-- the common multiples of a list and one more are common to the list
pub meets_fewer : (f : Bound) (o : Offer) (es : List ImageBounds) (e : ImageBounds) → MeetsIn f o (es ++ e ∷ []) → MeetsIn f o es
meets_fewer f o es e meet d =
    let common = meet d in (
      common.0,
      record {
        some = common.1.some;
        small = common.1.small;
        own = common.1.own;
        each = (both_pop (λ x. value f d x ∣ common.0) es e common.1.each).0;
      },
    )

-- one dimension without a common multiple up to the limit makes the line true
above_either : (f : Bound) (o : Offer) (es : List ImageBounds) (a b : ImageBounds)
    → ((d : Side) → IsMergeOf (Keeps Multiple) (own_value o f d) (value f d) es (value f d a))
    → IsAboveLimit (value f Width a) (value f Width b) ⊎ IsAboveLimit (value f Height a) (value f Height b) → ¬ MeetsIn f o (es ++ b ∷ [])
above_either f o es a b old (inl w) = λ meet. none_above (own_value o f Width) (value f Width) es b (value f Width a) (old Width) w (meet Width)
above_either f o es a b old (inr h) = λ meet. none_above (own_value o f Height) (value f Height) es b (value f Height a) (old Height) h (meet Height)

-- with a common multiple in both dimensions it isn't true
meets_more : (f : Bound) (o : Offer) (es : List ImageBounds) (a b : ImageBounds)
    → ((d : Side) → IsMergeOf (Keeps Multiple) (own_value o f d) (value f d) es (value f d a))
    → HasMultiple (value f Width a) (value f Width b) → HasMultiple (value f Height a) (value f Height b) → MeetsIn f o (es ++ b ∷ [])
meets_more f o es a b old w h Width = common_more (own_value o f Width) (value f Width) es b (value f Width a) (old Width) w
meets_more f o es a b old w h Height = common_more (own_value o f Height) (value f Height) es b (value f Height a) (old Height) h

-- the first field whose common multiple is above the limit heads the first line that is true
pub above_line : (f : Field) (o : Offer) (es : List ImageBounds) (a b : ImageBounds) → IsFirstAbove f a b → MergedOf o es a → IsFirstLine f o (es ++ b ∷ [])
above_line SizeAlignment o es a b above old = record {
  line = above_either bound.SizeAlignment o es a b (old.each bound.SizeAlignment) above;
  before = tt;
}
above_line BytesPerRowDivisor o es a b above old = record {
  line = above_either bound.BytesPerRowDivisor o es a b (old.each bound.BytesPerRowDivisor) (inl above.1);
  before = (λ line. line (meets_more bound.SizeAlignment o es a b (old.each bound.SizeAlignment) above.0.width above.0.height), tt);
}
above_line StartOffsetDivisor o es a b above old = record {
  line = above_either bound.StartOffsetDivisor o es a b (old.each bound.StartOffsetDivisor) (inl above.2);
  before = (
    λ line. line (meets_more bound.SizeAlignment o es a b (old.each bound.SizeAlignment) above.0.width above.0.height),
    (λ line. line (meets_more bound.BytesPerRowDivisor o es a b (old.each bound.BytesPerRowDivisor) above.1 above.1), tt),
  );
}
above_line DisplayRectAlignment o es a b above old = record {
  line = above_either bound.DisplayRectAlignment o es a b (old.each bound.DisplayRectAlignment) above.3;
  before = (
    λ line. line (meets_more bound.SizeAlignment o es a b (old.each bound.SizeAlignment) above.0.width above.0.height),
    (
      λ line. line (meets_more bound.BytesPerRowDivisor o es a b (old.each bound.BytesPerRowDivisor) above.1 above.1),
      (λ line. line (meets_more bound.StartOffsetDivisor o es a b (old.each bound.StartOffsetDivisor) above.2 above.2), tt),
    ),
  );
}
above_line _ o es a b above old = absurd above

-- a line about a common multiple stays true of a longer list
pub steady_line : (f : Field) → IsSteady f → (o : Offer) (es : List ImageBounds) (e : ImageBounds) → IsBoundsLine f o es → IsBoundsLine f o (es ++ e ∷ [])
steady_line SizeAlignment steady o es e line = λ meet. line (meets_fewer bound.SizeAlignment o es e meet)
steady_line BytesPerRowDivisor steady o es e line = λ meet. line (meets_fewer bound.BytesPerRowDivisor o es e meet)
steady_line StartOffsetDivisor steady o es e line = λ meet. line (meets_fewer bound.StartOffsetDivisor o es e meet)
steady_line DisplayRectAlignment steady o es e line = λ meet. line (meets_fewer bound.DisplayRectAlignment o es e meet)
steady_line _ steady o es e line = absurd steady
