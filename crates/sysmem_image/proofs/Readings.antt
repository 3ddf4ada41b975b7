-- What corners and lines read of merged bounds is what they read of the list.
use Rattle.std.proofs.Common.{◌≡◌, ◌↔◌, ℕ, ◌*◌, ◌<◌, ◌≤◌, ◌⊎◌, List, arith, inl, inr, refl, subst}
use Rattle.std.specs.Prelude.{Result, Ok, Err, IfErr}
use Rattle.std.specs.Int.{◌∣◌}
use Rattle.std.proofs.lemmas.Bool.{cases_lt}
use Rattle.std.proofs.lemmas.Nat.Gcd.{dvd_trans}
use Rattle.sysmem_counts.specs.declared.field.Field.{Field}
use Rattle.sysmem_counts.specs.declared.field.Field.TheVariants.{RequiredMinSize, MaxSize, MaxWidthTimesHeight, MaxBytesPerRow}
use Rattle.sysmem_formats.specs.declared.offer.Offer.{Offer}
use Rattle.sysmem_formats.specs.Layout.{width_alignment_of, height_alignment_of, row_divisor_of}
use Rattle.sysmem_image.specs.declared.bounds.ImageBounds.{ImageBounds}
use Rattle.sysmem_image.specs.declared.size.Corner.{Corner}
use Rattle.sysmem_image.specs.Size.{IsSizeUpTo}
use Rattle.sysmem_counts.specs.Bounds.{most_number}
use Rattle.sysmem_image.specs.Merged.{IsMergeOf, MergedOf}
use Rattle.sysmem_image.specs.Corners.{IsWidth, IsHeight, IsRow, RefusesCorner, HasSides, HasArea, EarlierHold}
use Rattle.sysmem_image.specs.Lines.{FitsWidth, FitsHeight, FitsRow, AlignmentsMeet, DivisorsMeet, MinAboveRequired, WidthAbove, HeightAbove, IsBoundsLine, IsFirstLine, MeetsIn, NoLines, multiple_lines}
use Rattle.sysmem_image.specs.Fields as bound
use Rattle.sysmem_image.specs.Fields.{Bound, Side, Width, Height, Multiple, Keeps, rule_of, most, value, own_value}
use Rattle.sysmem_image.specs.Laws.{ReadsAs}
use Rattle.sysmem_image.proofs.Steps.{common_merged}

-- the widths that merged bounds allow are those that the list asks for
pub width_reads : (o : Offer) (es : List ImageBounds) (b : ImageBounds) → MergedOf o es b → (n : ℕ) → IsWidth b n ↔ FitsWidth o es n
width_reads o es b old n = (
  λ is.
      let some : 1 ≤ n = omega (arith, b.min_width_some, is.from) in
      let own : width_alignment_of o ∣ n = dvd_trans (width_alignment_of o) (old.each bound.SizeAlignment Width).suits is.alignment in
      record {
        some = some;
        own = own;
        alignments = ((old.each bound.SizeAlignment Width).exactly n own).0 is.alignment;
        least = ((old.each bound.MinSize Width).exactly n some).0 is.from;
        required = ((old.each bound.RequiredMaxSize Width).exactly n (omega arith)).0 is.required;
      },
  λ fits. record {
    alignment = ((old.each bound.SizeAlignment Width).exactly n fits.own).1 fits.alignments;
    from = ((old.each bound.MinSize Width).exactly n fits.some).1 fits.least;
    required = ((old.each bound.RequiredMaxSize Width).exactly n (omega arith)).1 fits.required;
  },
)

-- the heights that merged bounds allow are those that the list asks for
pub height_reads : (o : Offer) (es : List ImageBounds) (b : ImageBounds) → MergedOf o es b → (n : ℕ) → IsHeight b n ↔ FitsHeight o es n
height_reads o es b old n = (
  λ is.
      let some : 1 ≤ n = omega (arith, b.min_height_some, is.from) in
      let own : height_alignment_of o ∣ n = dvd_trans (height_alignment_of o) (old.each bound.SizeAlignment Height).suits is.alignment in
      record {
        some = some;
        own = own;
        alignments = ((old.each bound.SizeAlignment Height).exactly n own).0 is.alignment;
        least = ((old.each bound.MinSize Height).exactly n some).0 is.from;
        required = ((old.each bound.RequiredMaxSize Height).exactly n (omega arith)).0 is.required;
      },
  λ fits. record {
    alignment = ((old.each bound.SizeAlignment Height).exactly n fits.own).1 fits.alignments;
    from = ((old.each bound.MinSize Height).exactly n fits.some).1 fits.least;
    required = ((old.each bound.RequiredMaxSize Height).exactly n (omega arith)).1 fits.required;
  },
)

-- the rows that merged bounds allow are those that the list asks for
pub row_reads : (o : Offer) (es : List ImageBounds) (b : ImageBounds) → MergedOf o es b → (w r : ℕ) → IsRow o b w r ↔ FitsRow o es w r
row_reads o es b old w r = (
  λ is.
      let some : 1 ≤ r = omega (arith, b.min_row_some, is.from) in
      let own : row_divisor_of o ∣ r = dvd_trans (row_divisor_of o) (old.each bound.BytesPerRowDivisor Width).suits is.divisor in
      record {
        some = some;
        own = own;
        divisors = ((old.each bound.BytesPerRowDivisor Width).exactly r own).0 is.divisor;
        least = ((old.each bound.MinBytesPerRow Width).exactly r some).0 is.from;
        row_bytes = is.row_bytes;
      },
  λ fits. record {
    divisor = ((old.each bound.BytesPerRowDivisor Width).exactly r fits.own).1 fits.divisors;
    from = ((old.each bound.MinBytesPerRow Width).exactly r fits.some).1 fits.least;
    row_bytes = fits.row_bytes;
  },
)

-- a merged alignment or divisor is a common multiple
merged_meets : (f : Bound) → rule_of f ≡ Multiple → (o : Offer) (es : List ImageBounds) (b : ImageBounds) → ((d : Side) → 1 ≤ value f d b) → most f ≡ most_number → MergedOf o es b → MeetsIn f o es
merged_meets f rule o es b some limit old d =
    common_merged (own_value o f d) (value f d) es (value f d b) (some d) (omega (arith, limit, old.in_range f d))
    (subst (λ r. IsMergeOf (Keeps r) (own_value o f d) (value f d) es (value f d b)) rule (old.each f d))

-- the alignments of bounds are 1 or more
alignments_some : (b : ImageBounds) (d : Side) → 1 ≤ value bound.SizeAlignment d b
alignments_some b Width = b.width_alignment_some
alignments_some b Height = b.height_alignment_some

display_some : (b : ImageBounds) (d : Side) → 1 ≤ value bound.DisplayRectAlignment d b
display_some b Width = b.display_width_some
display_some b Height = b.display_height_some

-- merged alignments are common multiples
pub alignments_meet : (o : Offer) (es : List ImageBounds) (b : ImageBounds) → MergedOf o es b → AlignmentsMeet o es
alignments_meet o es b old = merged_meets bound.SizeAlignment refl o es b (alignments_some b) refl old

-- a merged row divisor is a common multiple
pub divisors_meet : (o : Offer) (es : List ImageBounds) (b : ImageBounds) → MergedOf o es b → DivisorsMeet o es
divisors_meet o es b old = merged_meets bound.BytesPerRowDivisor refl o es b (λ d. b.row_divisor_some) refl old

-- what a corner reads of merged bounds is what it reads of the list
pub merged_reads : (o : Offer) (es : List ImageBounds) (b : ImageBounds) → MergedOf o es b → ReadsAs o es b
merged_reads o es b old = record {
  width = width_reads o es b old;
  height = height_reads o es b old;
  row = row_reads o es b old;
  alignments = alignments_meet o es b old;
  divisors = divisors_meet o es b old;
}

-- where bounds were merged, no line about a common multiple is true
no_multiple_lines : (o : Offer) (es : List ImageBounds) (b : ImageBounds) → MergedOf o es b → NoLines multiple_lines o es
no_multiple_lines o es b old = (
  λ line. line (alignments_meet o es b old),
  (
    λ line. line (divisors_meet o es b old),
    (
      λ line. line (merged_meets bound.StartOffsetDivisor refl o es b (λ d. b.start_divisor_some) refl old),
      (λ line. line (merged_meets bound.DisplayRectAlignment refl o es b (display_some b) refl old), tt),
    ),
  ),
)

-- where min_size is at most required_min_size, their line isn't true
no_required_line : (o : Offer) (es : List ImageBounds) (b : ImageBounds) → MergedOf o es b → IsSizeUpTo b.min_size b.required_min_size → ¬ IsBoundsLine RequiredMinSize o es
no_required_line o es b old fits = λ line. elim line as (λ _. ⊥) [
  | inl unmet ↦ unmet b.min_size.width b.min_width_some (old.in_range bound.MinSize Width)
      (((old.each bound.MinSize Width).exactly b.min_size.width (old.each bound.MinSize Width).suits).0 (omega arith))
      (((old.each bound.RequiredMinSize Width).exactly b.min_size.width (old.in_range bound.MinSize Width)).0 fits.width)
  | inr unmet ↦ unmet b.min_size.height b.min_height_some (old.in_range bound.MinSize Height)
      (((old.each bound.MinSize Height).exactly b.min_size.height (old.each bound.MinSize Height).suits).0 (omega arith))
      (((old.each bound.RequiredMinSize Height).exactly b.min_size.height (old.in_range bound.MinSize Height)).0 fits.height)
]

-- where some sides are up to max_size, its line isn't true
no_max_line : (o : Offer) (es : List ImageBounds) (b : ImageBounds) → MergedOf o es b → HasSides b → ¬ IsBoundsLine MaxSize o es
no_max_line o es b old has = λ line.
    let narrow : has.width ≤ most_number = omega (arith, has.max_width, (old.in_range bound.MaxSize Width)) in
    let low : has.height ≤ most_number = omega (arith, has.max_height, (old.in_range bound.MaxSize Height)) in
    elim line.1 as (λ _. ⊥) [
      | inl unmet ↦ unmet has.width narrow ((width_reads o es b old has.width).0 has.is_width) (((old.each bound.MaxSize Width).exactly has.width narrow).0 has.max_width)
      | inr unmet ↦ unmet has.height low ((height_reads o es b old has.height).0 has.is_height) (((old.each bound.MaxSize Height).exactly has.height low).0 has.max_height)
    ]

-- where some sides have a product up to max_width_times_height, its line isn't true
no_area_line : (o : Offer) (es : List ImageBounds) (b : ImageBounds) → MergedOf o es b → HasArea b → ¬ IsBoundsLine MaxWidthTimesHeight o es
no_area_line o es b old has = λ line.
    let w = has.sides.width in
    let h = has.sides.height in
    let small : w * h ≤ 18446744073709551615 = omega (arith, has.area, old.in_range bound.MaxWidthTimesHeight Width) in
    line.1 w h small ((width_reads o es b old w).0 has.sides.is_width) ((height_reads o es b old h).0 has.sides.is_height)
    (((old.each bound.MaxWidthTimesHeight Width).exactly (w * h) small).0 has.area)

-- where the merged min_size is above the merged required_min_size, so it is in the list
width_above : (o : Offer) (es : List ImageBounds) (b : ImageBounds) → MergedOf o es b → b.required_min_size.width < b.min_size.width → MinAboveRequired (λ e. e.min_size.width) (λ e. e.required_min_size.width) es
width_above o es b old above = λ n some small mins requireds.
    let left : b.min_size.width ≤ n = ((old.each bound.MinSize Width).exactly n some).1 mins in
    let right : n ≤ b.required_min_size.width = ((old.each bound.RequiredMinSize Width).exactly n small).1 requireds in
    let no : ⊥ = omega arith in
    no

height_above : (o : Offer) (es : List ImageBounds) (b : ImageBounds) → MergedOf o es b → b.required_min_size.height < b.min_size.height → MinAboveRequired (λ e. e.min_size.height) (λ e. e.required_min_size.height) es
height_above o es b old above = λ n some small mins requireds.
    let left : b.min_size.height ≤ n = ((old.each bound.MinSize Height).exactly n some).1 mins in
    let right : n ≤ b.required_min_size.height = ((old.each bound.RequiredMinSize Height).exactly n small).1 requireds in
    let no : ⊥ = omega arith in
    no

-- the field for which merged bounds have no corner heads a line that is true of the list
corner_line : (f : Field) (o : Offer) (es : List ImageBounds) (b : ImageBounds) → RefusesCorner f o b → MergedOf o es b → IsBoundsLine f o es
corner_line RequiredMinSize o es b none old =
    elim (cases_lt b.required_min_size.width b.min_size.width) as (λ _. IsBoundsLine RequiredMinSize o es) [
      | inl above ↦ inl (width_above o es b old above)
      | inr narrow ↦ elim (cases_lt b.required_min_size.height b.min_size.height) as (λ _. IsBoundsLine RequiredMinSize o es) [
        | inl above ↦ inr (height_above o es b old above)
        | inr low ↦ absurd (none (record { width = narrow; height = low }))
      ]
    ]
corner_line MaxSize o es b none old = (
  alignments_meet o es b old,
  elim none as (λ _. WidthAbove o es ⊎ HeightAbove o es) [
    | inl unmet ↦ inl (λ w small fits maxima.
        let below : b.max_size.width < w = unmet w ((width_reads o es b old w).1 fits) in
        let up_to : w ≤ b.max_size.width = ((old.each bound.MaxSize Width).exactly w small).1 maxima in
        let never : ⊥ = omega arith in
        never)
    | inr unmet ↦ inr (λ h small fits maxima.
        let below : b.max_size.height < h = unmet h ((height_reads o es b old h).1 fits) in
        let up_to : h ≤ b.max_size.height = ((old.each bound.MaxSize Height).exactly h small).1 maxima in
        let never : ⊥ = omega arith in
        never)
  ],
)
corner_line MaxWidthTimesHeight o es b none old = (
  alignments_meet o es b old,
  λ w h small wide high maxima.
      let below : b.max_width_times_height < w * h = none w h ((width_reads o es b old w).1 wide) ((height_reads o es b old h).1 high) in
      let up_to : w * h ≤ b.max_width_times_height = ((old.each bound.MaxWidthTimesHeight Width).exactly (w * h) small).1 maxima in
      let never : ⊥ = omega arith in
      never,
)
corner_line MaxBytesPerRow o es b none old = (
  alignments_meet o es b old,
  divisors_meet o es b old,
  λ w r small wide fits maxima.
      let below : b.max_bytes_per_row < r = none w r ((width_reads o es b old w).1 wide) ((row_reads o es b old w r).1 fits) in
      let up_to : r ≤ b.max_bytes_per_row = ((old.each bound.MaxBytesPerRow Width).exactly r small).1 maxima in
      let never : ⊥ = omega arith in
      never,
)
corner_line _ o es b none old = absurd none

-- and it heads the first one
pub first_line : (f : Field) (o : Offer) (es : List ImageBounds) (b : ImageBounds) → RefusesCorner f o b → EarlierHold f b → MergedOf o es b → IsFirstLine f o es
first_line RequiredMinSize o es b none earlier old = record {
  line = corner_line RequiredMinSize o es b none old;
  before = no_multiple_lines o es b old;
}
first_line MaxSize o es b none earlier old = record {
  line = corner_line MaxSize o es b none old;
  before = (no_required_line o es b old earlier, no_multiple_lines o es b old);
}
first_line MaxWidthTimesHeight o es b none earlier old = record {
  line = corner_line MaxWidthTimesHeight o es b none old;
  before = (no_max_line o es b old earlier.1, (no_required_line o es b old earlier.0, no_multiple_lines o es b old));
}
first_line MaxBytesPerRow o es b none earlier old = record {
  line = corner_line MaxBytesPerRow o es b none old;
  before = (no_area_line o es b old earlier.1, (no_max_line o es b old earlier.1.sides, (no_required_line o es b old earlier.0, no_multiple_lines o es b old)));
}
first_line _ o es b none earlier old = absurd none

-- the same of what a corner's call returned
pub first_line_of : (r : Result Corner Field) (o : Offer) (es : List ImageBounds) (b : ImageBounds) → IfErr r (λ f. RefusesCorner f o b) → IfErr r (λ f. EarlierHold f b) → MergedOf o es b → IfErr r (λ f. IsFirstLine f o es)
first_line_of (Ok k) o es b none earlier old = tt
first_line_of (Err f) o es b none earlier old = first_line f o es b none earlier old
