-- A true line leaves no sound bounds.
use Rattle.std.proofs.Common.{◌*◌, ◌≤◌, List, [], ◌∷◌, ◌++◌, arith, inl, inr}
use Rattle.std.specs.Prelude.{All}
use Rattle.std.specs.Int.{◌∣◌}
use Rattle.std.proofs.Math.Nat.{one-dvd}
use Rattle.std.proofs.lemmas.Nat.Gcd.{dvd_trans}
use Rattle.sysmem_counts.specs.declared.field.Field.{Field}
use Rattle.sysmem_counts.specs.declared.field.Field.TheVariants.{SizeAlignment, BytesPerRowDivisor, StartOffsetDivisor, DisplayRectAlignment, RequiredMinSize, MaxSize, MaxWidthTimesHeight, MaxBytesPerRow}
use Rattle.sysmem_formats.specs.declared.offer.Offer.{Offer}
use Rattle.sysmem_formats.specs.Layout.{width_alignment_of, height_alignment_of, row_divisor_of}
use Rattle.sysmem_image.specs.declared.bounds.ImageBounds.{ImageBounds}
use Rattle.sysmem_image.specs.Fields as bound
use Rattle.sysmem_image.specs.Fields.{Bound, Side, Width, Height, Keeps, KeepsIn, rule_of, value, own_value}
use Rattle.sysmem_image.specs.Bounds.{IsTighter, IsInRange, Suits}
use Rattle.sysmem_image.specs.Images.{Image, IsSoundBounds}
use Rattle.sysmem_image.specs.Merged.{MergedOf, NoneMerge, IsFirstAbove}
use Rattle.sysmem_image.specs.Lines.{FitsWidth, FitsHeight, FitsRow, MeetsIn, IsBoundsLine, IsSteady, KeepsCorner, KeepsLine}
use Rattle.sysmem_image.specs.Laws.{FitsImage}
use Rattle.sysmem_image.proofs.Steps.{all_map, common_kept, above_line}
use Rattle.sysmem_counts.specs.Bounds.{most_number}

-- bounds of an offer keep to its own value in each field
pub own_kept : (o : Offer) (s : ImageBounds) → IsInRange s → Suits o s → (f : Bound) (d : Side) → Keeps (rule_of f) (own_value o f d) (value f d s)
own_kept o s in_range suits bound.MinSize Width = s.min_width_some
own_kept o s in_range suits bound.MinSize Height = s.min_height_some
own_kept o s in_range suits bound.MaxSize d = in_range bound.MaxSize d
own_kept o s in_range suits bound.SizeAlignment Width = suits.width
own_kept o s in_range suits bound.SizeAlignment Height = suits.height
own_kept o s in_range suits bound.MinBytesPerRow d = s.min_row_some
own_kept o s in_range suits bound.MaxBytesPerRow d = in_range bound.MaxBytesPerRow d
own_kept o s in_range suits bound.BytesPerRowDivisor d = suits.row
own_kept o s in_range suits bound.StartOffsetDivisor d = one-dvd s.start_offset_divisor
own_kept o s in_range suits bound.DisplayRectAlignment d = one-dvd (value bound.DisplayRectAlignment d s)
own_kept o s in_range suits bound.RequiredMinSize d = in_range bound.RequiredMinSize d
own_kept o s in_range suits bound.RequiredMaxSize d = omega arith
own_kept o s in_range suits bound.MaxWidthTimesHeight d = in_range bound.MaxWidthTimesHeight d

-- the width of a sound image is as a list asks, if the bounds keep to its fields
pub fits_width : (o : Offer) (es : List ImageBounds) (s : ImageBounds) (i : Image) → IsSoundBounds o s i → All (λ e. KeepsIn bound.MinSize s e) es → All (λ e. KeepsIn bound.SizeAlignment s e) es → All (λ e. KeepsIn bound.RequiredMaxSize s e) es → FitsWidth o es i.width
fits_width o es s i sound mins aligned larges = record {
  some = omega (arith, s.min_width_some, sound.admitted.min_width);
  own = dvd_trans (width_alignment_of o) sound.suits.width sound.admitted.width_alignment;
  alignments = all_map (λ e. KeepsIn bound.SizeAlignment s e) (λ e. e.size_alignment.width ∣ i.width) es (λ e k. dvd_trans e.size_alignment.width (k Width) sound.admitted.width_alignment) aligned;
  least = all_map (λ e. KeepsIn bound.MinSize s e) (λ e. e.min_size.width ≤ i.width) es (λ e k. omega (arith, (k Width), sound.admitted.min_width)) mins;
  required = all_map (λ e. KeepsIn bound.RequiredMaxSize s e) (λ e. e.required_max_size.width ≤ i.width) es (λ e k. omega (arith, (k Width), sound.large.width)) larges;
}

-- the height of a sound image is as a list asks, if the bounds keep to its fields
pub fits_height : (o : Offer) (es : List ImageBounds) (s : ImageBounds) (i : Image) → IsSoundBounds o s i → All (λ e. KeepsIn bound.MinSize s e) es → All (λ e. KeepsIn bound.SizeAlignment s e) es → All (λ e. KeepsIn bound.RequiredMaxSize s e) es → FitsHeight o es i.height
fits_height o es s i sound mins aligned larges = record {
  some = omega (arith, s.min_height_some, sound.admitted.min_height);
  own = dvd_trans (height_alignment_of o) sound.suits.height sound.admitted.height_alignment;
  alignments = all_map (λ e. KeepsIn bound.SizeAlignment s e) (λ e. e.size_alignment.height ∣ i.height) es (λ e k. dvd_trans e.size_alignment.height (k Height) sound.admitted.height_alignment) aligned;
  least = all_map (λ e. KeepsIn bound.MinSize s e) (λ e. e.min_size.height ≤ i.height) es (λ e k. omega (arith, (k Height), sound.admitted.min_height)) mins;
  required = all_map (λ e. KeepsIn bound.RequiredMaxSize s e) (λ e. e.required_max_size.height ≤ i.height) es (λ e k. omega (arith, (k Height), sound.large.height)) larges;
}

-- the row of a sound image is as a list asks, if the bounds keep to its fields
pub fits_row : (o : Offer) (es : List ImageBounds) (s : ImageBounds) (i : Image) → IsSoundBounds o s i → All (λ e. KeepsIn bound.MinBytesPerRow s e) es → All (λ e. KeepsIn bound.BytesPerRowDivisor s e) es → FitsRow o es i.width i.row
fits_row o es s i sound mins divided = record {
  some = omega (arith, s.min_row_some, sound.admitted.min_row);
  own = dvd_trans (row_divisor_of o) sound.suits.row sound.admitted.row_divisor;
  divisors = all_map (λ e. KeepsIn bound.BytesPerRowDivisor s e) (λ e. e.bytes_per_row_divisor ∣ i.row) es (λ e k. dvd_trans e.bytes_per_row_divisor (k Width) sound.admitted.row_divisor) divided;
  least = all_map (λ e. KeepsIn bound.MinBytesPerRow s e) (λ e. e.min_bytes_per_row ≤ i.row) es (λ e k. omega (arith, k Width, sound.admitted.min_row)) mins;
  row_bytes = sound.admitted.row_bytes;
}

-- a sound image is as a list asks, if the bounds keep to it in the fields that the corner reads
pub fits_image : (o : Offer) (es : List ImageBounds) (s : ImageBounds) (i : Image) → IsSoundBounds o s i → All (λ e. KeepsCorner s e) es → FitsImage o es i
fits_image o es s i sound all =
    let mins = all_map (KeepsCorner s) (λ e. KeepsIn bound.MinSize s e) es (λ e k. k.0) all in
    let aligned = all_map (KeepsCorner s) (λ e. KeepsIn bound.SizeAlignment s e) es (λ e k. k.1.0) all in
    let larges = all_map (KeepsCorner s) (λ e. KeepsIn bound.RequiredMaxSize s e) es (λ e k. k.1.1.1.1.0) all in
    record {
      width = fits_width o es s i sound mins aligned larges;
      height = fits_height o es s i sound mins aligned larges;
      row = fits_row o es s i sound
          (all_map (KeepsCorner s) (λ e. KeepsIn bound.MinBytesPerRow s e) es (λ e k. k.1.1.0) all)
          (all_map (KeepsCorner s) (λ e. KeepsIn bound.BytesPerRowDivisor s e) es (λ e k. k.1.1.1.0) all);
    }

-- bounds that keep to a list in a field have a common multiple with it
meets_kept : (f : Bound) (o : Offer) (es : List ImageBounds) (s : ImageBounds) → ((e : ImageBounds) → KeepsIn f s e → (d : Side) → value f d e ∣ value f d s)
    → ((d : Side) → 1 ≤ value f d s) → ((d : Side) → value f d s ≤ most_number) → ((d : Side) → own_value o f d ∣ value f d s) → All (λ e. KeepsIn f s e) es → MeetsIn f o es
meets_kept f o es s divides some small suits all d =
    common_kept (own_value o f d) (value f d) es (value f d s) (some d) (small d) (suits d) (all_map (λ e. KeepsIn f s e) (λ e. value f d e ∣ value f d s) es (λ e k. divides e k d) all)

-- so no line about a common multiple is true of it
size_meets : (o : Offer) (es : List ImageBounds) (s : ImageBounds) → IsInRange s → Suits o s → All (λ e. KeepsIn bound.SizeAlignment s e) es → MeetsIn bound.SizeAlignment o es
size_meets o es s in_range suits all = meets_kept bound.SizeAlignment o es s (λ e k. k) some (in_range bound.SizeAlignment) (own_kept o s in_range suits bound.SizeAlignment) all where
  some : (d : Side) → 1 ≤ value bound.SizeAlignment d s
  some Width = s.width_alignment_some
  some Height = s.height_alignment_some

row_meets : (o : Offer) (es : List ImageBounds) (s : ImageBounds) → IsInRange s → Suits o s → All (λ e. KeepsIn bound.BytesPerRowDivisor s e) es → MeetsIn bound.BytesPerRowDivisor o es
row_meets o es s in_range suits all = meets_kept bound.BytesPerRowDivisor o es s (λ e k. k) (λ d. s.row_divisor_some) (in_range bound.BytesPerRowDivisor) (own_kept o s in_range suits bound.BytesPerRowDivisor) all

start_meets : (o : Offer) (es : List ImageBounds) (s : ImageBounds) → IsInRange s → Suits o s → All (λ e. KeepsIn bound.StartOffsetDivisor s e) es → MeetsIn bound.StartOffsetDivisor o es
start_meets o es s in_range suits all = meets_kept bound.StartOffsetDivisor o es s (λ e k. k) (λ d. s.start_divisor_some) (in_range bound.StartOffsetDivisor) (own_kept o s in_range suits bound.StartOffsetDivisor) all

display_meets : (o : Offer) (es : List ImageBounds) (s : ImageBounds) → IsInRange s → Suits o s → All (λ e. KeepsIn bound.DisplayRectAlignment s e) es → MeetsIn bound.DisplayRectAlignment o es
display_meets o es s in_range suits all = meets_kept bound.DisplayRectAlignment o es s (λ e k. k) some (in_range bound.DisplayRectAlignment) (own_kept o s in_range suits bound.DisplayRectAlignment) all where
  some : (d : Side) → 1 ≤ value bound.DisplayRectAlignment d s
  some Width = s.display_width_some
  some Height = s.display_height_some

-- a true line leaves no sound bounds that keep to the list in the fields that it reads
pub line_holds : (f : Field) (o : Offer) (es : List ImageBounds) → IsBoundsLine f o es → (s : ImageBounds) (i : Image) → IsSoundBounds o s i → All (λ e. KeepsLine f s e) es → ⊥
line_holds SizeAlignment o es line s i sound all = line (size_meets o es s sound.in_range sound.suits (all_map (KeepsLine SizeAlignment s) (KeepsIn bound.SizeAlignment s) es (λ e k. k.0) all))
line_holds BytesPerRowDivisor o es line s i sound all = line (row_meets o es s sound.in_range sound.suits (all_map (KeepsLine BytesPerRowDivisor s) (KeepsIn bound.BytesPerRowDivisor s) es (λ e k. k.0) all))
line_holds StartOffsetDivisor o es line s i sound all = line (start_meets o es s sound.in_range sound.suits (all_map (KeepsLine StartOffsetDivisor s) (KeepsIn bound.StartOffsetDivisor s) es (λ e k. k.0) all))
line_holds DisplayRectAlignment o es line s i sound all = line (display_meets o es s sound.in_range sound.suits (all_map (KeepsLine DisplayRectAlignment s) (KeepsIn bound.DisplayRectAlignment s) es (λ e k. k.0) all))
line_holds RequiredMinSize o es line s i sound all = elim line as (λ _. ⊥) [
  | inl unmet ↦ unmet s.min_size.width s.min_width_some (sound.in_range bound.MinSize Width)
      (all_map (KeepsLine RequiredMinSize s) (λ e. e.min_size.width ≤ s.min_size.width) es (λ e k. k.0 Width) all)
      (all_map (KeepsLine RequiredMinSize s) (λ e. s.min_size.width ≤ e.required_min_size.width) es (λ e k. omega (arith, k.1.0 Width, sound.required.width)) all)
  | inr unmet ↦ unmet s.min_size.height s.min_height_some (sound.in_range bound.MinSize Height)
      (all_map (KeepsLine RequiredMinSize s) (λ e. e.min_size.height ≤ s.min_size.height) es (λ e k. k.0 Height) all)
      (all_map (KeepsLine RequiredMinSize s) (λ e. s.min_size.height ≤ e.required_min_size.height) es (λ e k. omega (arith, k.1.0 Height, sound.required.height)) all)
]
line_holds MaxSize o es line s i sound all =
    let mins = all_map (KeepsLine MaxSize s) (λ e. KeepsIn bound.MinSize s e) es (λ e k. k.0) all in
    let aligned = all_map (KeepsLine MaxSize s) (λ e. KeepsIn bound.SizeAlignment s e) es (λ e k. k.1.1.0) all in
    let larges = all_map (KeepsLine MaxSize s) (λ e. KeepsIn bound.RequiredMaxSize s e) es (λ e k. k.1.1.1.0) all in
    elim line.1 as (λ _. ⊥) [
      | inl unmet ↦ unmet i.width (omega (arith, sound.admitted.max_width, sound.in_range bound.MaxSize Width)) (fits_width o es s i sound mins aligned larges)
          (all_map (KeepsLine MaxSize s) (λ e. i.width ≤ e.max_size.width) es (λ e k. omega (arith, k.1.0 Width, sound.admitted.max_width)) all)
      | inr unmet ↦ unmet i.height (omega (arith, sound.admitted.max_height, sound.in_range bound.MaxSize Height)) (fits_height o es s i sound mins aligned larges)
          (all_map (KeepsLine MaxSize s) (λ e. i.height ≤ e.max_size.height) es (λ e k. omega (arith, k.1.0 Height, sound.admitted.max_height)) all)
    ]
line_holds MaxWidthTimesHeight o es line s i sound all =
    let mins = all_map (KeepsLine MaxWidthTimesHeight s) (λ e. KeepsIn bound.MinSize s e) es (λ e k. k.0) all in
    let aligned = all_map (KeepsLine MaxWidthTimesHeight s) (λ e. KeepsIn bound.SizeAlignment s e) es (λ e k. k.1.0) all in
    let larges = all_map (KeepsLine MaxWidthTimesHeight s) (λ e. KeepsIn bound.RequiredMaxSize s e) es (λ e k. k.1.1.0) all in
    line.1 i.width i.height (omega (arith, sound.admitted.area, sound.in_range bound.MaxWidthTimesHeight Width))
    (fits_width o es s i sound mins aligned larges) (fits_height o es s i sound mins aligned larges)
    (all_map (KeepsLine MaxWidthTimesHeight s) (λ e. i.width * i.height ≤ e.max_width_times_height) es (λ e k. omega (arith, k.1.1.1.0 Width, sound.admitted.area)) all)
line_holds MaxBytesPerRow o es line s i sound all =
    let fits = fits_image o es s i sound (all_map (KeepsLine MaxBytesPerRow s) (KeepsCorner s) es (λ e k. k.1) all) in
    line.2 i.width i.row (omega (arith, sound.admitted.max_row, sound.in_range bound.MaxBytesPerRow Width)) fits.width fits.row
    (all_map (KeepsLine MaxBytesPerRow s) (λ e. i.row ≤ e.max_bytes_per_row) es (λ e k. omega (arith, k.0 Width, sound.admitted.max_row)) all)
line_holds _ o es line s i sound all = absurd line

-- a true line about a common multiple leaves no bounds that keep to each of the list
pub line_none : (f : Field) → IsSteady f → (o : Offer) (es : List ImageBounds) → IsBoundsLine f o es → NoneMerge o es
line_none SizeAlignment steady o es line = λ s in_range suits all. line (size_meets o es s in_range suits (all_map (IsTighter s) (KeepsIn bound.SizeAlignment s) es (λ e k. k bound.SizeAlignment) all))
line_none BytesPerRowDivisor steady o es line = λ s in_range suits all. line (row_meets o es s in_range suits (all_map (IsTighter s) (KeepsIn bound.BytesPerRowDivisor s) es (λ e k. k bound.BytesPerRowDivisor) all))
line_none StartOffsetDivisor steady o es line = λ s in_range suits all. line (start_meets o es s in_range suits (all_map (IsTighter s) (KeepsIn bound.StartOffsetDivisor s) es (λ e k. k bound.StartOffsetDivisor) all))
line_none DisplayRectAlignment steady o es line = λ s in_range suits all. line (display_meets o es s in_range suits (all_map (IsTighter s) (KeepsIn bound.DisplayRectAlignment s) es (λ e k. k bound.DisplayRectAlignment) all))
line_none _ steady o es line = absurd steady

-- the same where the multiple of merged bounds and one more is above the limit
pub above_none : (f : Field) (o : Offer) (es : List ImageBounds) (a b : ImageBounds) → IsFirstAbove f a b → MergedOf o es a → NoneMerge o (es ++ b ∷ [])
above_none f o es a b above old = line_none f (above_steady f above) o (es ++ b ∷ []) (above_line f o es a b above old).line where
  above_steady : (f : Field) → IsFirstAbove f a b → IsSteady f
  above_steady SizeAlignment above = tt
  above_steady BytesPerRowDivisor above = tt
  above_steady StartOffsetDivisor above = tt
  above_steady DisplayRectAlignment above = tt
  above_steady _ above = absurd above
