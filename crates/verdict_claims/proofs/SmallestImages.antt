-- Of bounds that a list asks for a line is true, or there is a least
-- image that keeps within all of them.
use Rattle.std.proofs.Common.{◌⊎◌, inl, inr, arith, ℕ, suc, ◌+◌, ◌*◌, ◌<◌, ◌≤◌, min, List, All, slice_index_or}
use Rattle.std.specs.Int.{◌∣◌}
use Rattle.std.proofs.lemmas.List.Elements.{All-weaker}
use Rattle.std.proofs.lemmas.Nat.Gcd.{dvd_trans, dvd_refl}
use Rattle.std.proofs.Math.Nat.{dvd-mul_right, mul-le-mul, mul-le-mul_right}
use Rattle.sysmem_counts.specs.Bounds.{most_number}
use Rattle.sysmem_counts.specs.declared.field.Field.{Field}
use Rattle.sysmem_counts.specs.declared.field.Field.TheVariants as field
use Rattle.sysmem_formats.specs.declared.modifier.Modifier.{Modifier}
use Rattle.sysmem_formats.specs.declared.modifier.Modifier.TheVariants.{Linear, IntelXTiled, IntelYTiled}
use Rattle.sysmem_formats.specs.declared.offer.Offer.{Offer}
use Rattle.sysmem_formats.specs.declared.offer.Offer.TheVariants.{NoImage, Image}
use Rattle.sysmem_formats.specs.Layout.{row_divisor_of, width_alignment_of, height_alignment_of, row_up_to, row_bytes_of, pixel_bytes}
use Rattle.sysmem_image.specs.declared.bounds.ImageBounds.{ImageBounds}
use Rattle.sysmem_image.specs.Bounds.{IsTighter, IsInRange}
use Rattle.sysmem_image.specs.Fields as bound
use Rattle.sysmem_image.specs.Fields.{Bound, Side, Width, Height, value, own_value}
use Rattle.sysmem_image.specs.Images.{Image as AnImage, IsSoundBounds}
use Rattle.sysmem_image.specs.Lines.{IsCommon, HasCommon, MeetsIn, FitsWidth, FitsHeight, FitsRow, AlignmentsMeet, DivisorsMeet, IsBoundsLine}
use Rattle.verdict_claims.proofs.Deciding.{Told, told_le, told_divides, told_both, told_same, told_all, HasLeast, search_below, least_of, above_all}

-- a wider row has no fewer bytes
row_up_to_mono : (m : Modifier) (x y : ℕ) → x ≤ y → row_up_to m x ≤ row_up_to m y
row_up_to_mono Linear x y h = h
row_up_to_mono IntelXTiled x y h = omega arith
row_up_to_mono IntelYTiled x y h = omega arith

row_bytes_mono : (o : Offer) (w v : ℕ) → w ≤ v → row_bytes_of o w ≤ row_bytes_of o v
row_bytes_mono NoImage w v h = omega arith
row_bytes_mono (Image pair colour) w v h = row_up_to_mono pair.modifier (w * pixel_bytes pair.format) (v * pixel_bytes pair.format) (mul-le-mul_right (pixel_bytes pair.format) h)

-- common multiples up to the limit
module _ (first : ℕ) (f : ImageBounds → ℕ) (es : List ImageBounds) where
  told_is_common : (n : ℕ) → Told (IsCommon first f es n)
  told_is_common n = told_same ((1 ≤ n) × ((n ≤ most_number) × ((first ∣ n) × All (λ e. f e ∣ n) es))) (IsCommon first f es n)
      (λ h. record { some = h.0; small = h.1.0; own = h.1.1.0; each = h.1.1.1 }) (λ c. (c.some, (c.small, (c.own, c.each))))
      (told_both (1 ≤ n) ((n ≤ most_number) × ((first ∣ n) × All (λ e. f e ∣ n) es)) (told_le 1 n)
      (told_both (n ≤ most_number) ((first ∣ n) × All (λ e. f e ∣ n) es) (told_le n most_number)
      (told_both (first ∣ n) (All (λ e. f e ∣ n) es) (told_divides first n) (told_all (λ e. f e ∣ n) (λ e. told_divides (f e) n) es))))

  told_common : Told (HasCommon first f es)
  told_common = elim (search_below (IsCommon first f es) told_is_common (suc most_number)) as (λ _. Told (HasCommon first f es)) [
    | inl found ↦ inl (found.number, found.holds)
    | inr none ↦ inr (λ has. none has.0 (omega (arith, has.1.small)) has.1)
  ]

pub told_meets : (f : Bound) (o : Offer) (es : List ImageBounds) → Told (MeetsIn f o es)
told_meets f o es = by (told_common (own_value o f Width) (value f Width) es) (told_common (own_value o f Height) (value f Height) es) where
  both : HasCommon (own_value o f Width) (value f Width) es → HasCommon (own_value o f Height) (value f Height) es → MeetsIn f o es
  both w h Width = w
  both w h Height = h

  by : Told (HasCommon (own_value o f Width) (value f Width) es) → Told (HasCommon (own_value o f Height) (value f Height) es) → Told (MeetsIn f o es)
  by (inl w) (inl h) = inl (both w h)
  by (inl w) (inr fails) = inr (λ meets. fails (meets Height))
  by (inr fails) h = inr (λ meets. fails (meets Width))

-- a number from 1 on of the own number and those of a list, not below
-- others of the list nor below `low`
module _ (own : ℕ) (f g h : ImageBounds → ℕ) (low : ℕ) (es : List ImageBounds) where
  abbrev pub Above : ℕ → Type 0
  Above n = (1 ≤ n) × ((own ∣ n) × (All (λ e. f e ∣ n) es × (All (λ e. g e ≤ n) es × (All (λ e. h e ≤ n) es × (low ≤ n)))))

  told_above : (n : ℕ) → Told (Above n)
  told_above n =
      told_both (1 ≤ n) ((own ∣ n) × (All (λ e. f e ∣ n) es × (All (λ e. g e ≤ n) es × (All (λ e. h e ≤ n) es × (low ≤ n))))) (told_le 1 n)
      (told_both (own ∣ n) (All (λ e. f e ∣ n) es × (All (λ e. g e ≤ n) es × (All (λ e. h e ≤ n) es × (low ≤ n)))) (told_divides own n)
      (told_both (All (λ e. f e ∣ n) es) (All (λ e. g e ≤ n) es × (All (λ e. h e ≤ n) es × (low ≤ n))) (told_all (λ e. f e ∣ n) (λ e. told_divides (f e) n) es)
      (told_both (All (λ e. g e ≤ n) es) (All (λ e. h e ≤ n) es × (low ≤ n)) (told_all (λ e. g e ≤ n) (λ e. told_le (g e) n) es)
      (told_both (All (λ e. h e ≤ n) es) (low ≤ n) (told_all (λ e. h e ≤ n) (λ e. told_le (h e) n) es) (told_le low n)))))

  -- there is one, a multiple of each common multiple
  least_above : HasCommon own f es → HasLeast Above
  least_above (n, common) =
      let gs = above_all g es in
      let hs = above_all h es in
      let k : ℕ = 1 + (gs.0 + (hs.0 + low)) in
      let grows : 1 * k ≤ n * k = mul-le-mul_right k common.some in
      least_of Above told_above (n * k) (
        omega (arith, grows),
        (
          dvd_trans own common.own (dvd-mul_right n k),
          (
            All-weaker (λ e. f e ∣ n) (λ e. f e ∣ n * k) (λ e d. dvd_trans (f e) d (dvd-mul_right n k)) es common.each,
            (
              All-weaker (λ e. g e ≤ gs.0) (λ e. g e ≤ n * k) (λ e less. omega (arith, grows, less)) es gs.1,
              (
                All-weaker (λ e. h e ≤ hs.0) (λ e. h e ≤ n * k) (λ e less. omega (arith, grows, less)) es hs.1,
                omega (arith, grows),
              ),
            ),
          ),
        ),
      )

-- a number from 1 to the limit between those of a list
abbrev pub Between : (ImageBounds → ℕ) → (ImageBounds → ℕ) → List ImageBounds → ℕ → Type 0
Between least greatest es n = (1 ≤ n) × ((n ≤ most_number) × (All (λ e. least e ≤ n) es × All (λ e. n ≤ greatest e) es))

told_between : (least greatest : ImageBounds → ℕ) (es : List ImageBounds) (n : ℕ) → Told (Between least greatest es n)
told_between least greatest es n =
    told_both (1 ≤ n) ((n ≤ most_number) × (All (λ e. least e ≤ n) es × All (λ e. n ≤ greatest e) es)) (told_le 1 n)
    (told_both (n ≤ most_number) (All (λ e. least e ≤ n) es × All (λ e. n ≤ greatest e) es) (told_le n most_number)
    (told_both (All (λ e. least e ≤ n) es) (All (λ e. n ≤ greatest e) es) (told_all (λ e. least e ≤ n) (λ e. told_le (least e) n) es) (told_all (λ e. n ≤ greatest e) (λ e. told_le n (greatest e)) es)))

-- a number is up to a limit and up to those of a list
told_up_to : (limit n : ℕ) (greatest : ImageBounds → ℕ) (es : List ImageBounds) → Told ((n ≤ limit) × All (λ e. n ≤ greatest e) es)
told_up_to limit n greatest es = told_both (n ≤ limit) (All (λ e. n ≤ greatest e) es) (told_le n limit) (told_all (λ e. n ≤ greatest e) (λ e. told_le n (greatest e)) es)

-- the least image that a list asks for, which is within each of its bounds
pub record Smallest (o : Offer) (es : List ImageBounds) : Type 0 where
  pub alignments : AlignmentsMeet o es
  pub divisors : DivisorsMeet o es
  pub start : MeetsIn bound.StartOffsetDivisor o es
  pub display : MeetsIn bound.DisplayRectAlignment o es
  pub min_width : (n : ℕ) × Between (λ e. e.min_size.width) (λ e. e.required_min_size.width) es n
  pub min_height : (n : ℕ) × Between (λ e. e.min_size.height) (λ e. e.required_min_size.height) es n
  pub width : ℕ
  pub height : ℕ
  pub row : ℕ
  pub fits_width : FitsWidth o es width
  pub fits_height : FitsHeight o es height
  pub fits_row : FitsRow o es width row
  pub least_row : (w r : ℕ) → FitsWidth o es w → FitsRow o es w r → row ≤ r
  pub least_height : (h : ℕ) → FitsHeight o es h → height ≤ h
  pub max_width : (width ≤ most_number) × All (λ e. width ≤ e.max_size.width) es
  pub max_height : (height ≤ most_number) × All (λ e. height ≤ e.max_size.height) es
  pub area : (width * height ≤ 18446744073709551615) × All (λ e. width * height ≤ e.max_width_times_height) es
  pub max_row : (row ≤ most_number) × All (λ e. row ≤ e.max_bytes_per_row) es

-- bounds that ask for just that image
abbrev pub bounds_of : (o : Offer) (es : List ImageBounds) → Smallest o es → ImageBounds
bounds_of o es s = record {
  min_size = record { width = min s.min_width.0 s.width; height = min s.min_height.0 s.height };
  min_width_some = omega (arith, s.min_width.1.0, s.fits_width.some);
  min_height_some = omega (arith, s.min_height.1.0, s.fits_height.some);
  max_size = record { width = s.width; height = s.height };
  size_alignment = record { width = s.width; height = s.height };
  width_alignment_some = s.fits_width.some;
  height_alignment_some = s.fits_height.some;
  min_bytes_per_row = s.row;
  min_row_some = s.fits_row.some;
  max_bytes_per_row = s.row;
  bytes_per_row_divisor = s.row;
  row_divisor_some = s.fits_row.some;
  start_offset_divisor = (s.start Width).0;
  start_divisor_some = (s.start Width).1.some;
  display_rect_alignment = record { width = (s.display Width).0; height = (s.display Height).0 };
  display_width_some = (s.display Width).1.some;
  display_height_some = (s.display Height).1.some;
  required_min_size = record { width = s.min_width.0; height = s.min_height.0 };
  required_max_size = record { width = s.width; height = s.height };
  max_width_times_height = s.width * s.height;
}

module _ (o : Offer) (es : List ImageBounds) (s : Smallest o es) where
  -- they keep to each of the list
  pub keeps_all : All (IsTighter (bounds_of o es s)) es
  keeps_all k d below = by where
    by : IsTighter (bounds_of o es s) (slice_index_or es k d)
    by bound.MinSize Width = omega (arith, s.min_width.1.1.1.0 k d below, s.fits_width.least k d below)
    by bound.MinSize Height = omega (arith, s.min_height.1.1.1.0 k d below, s.fits_height.least k d below)
    by bound.MaxSize Width = s.max_width.1 k d below
    by bound.MaxSize Height = s.max_height.1 k d below
    by bound.SizeAlignment Width = s.fits_width.alignments k d below
    by bound.SizeAlignment Height = s.fits_height.alignments k d below
    by bound.MinBytesPerRow Width = s.fits_row.least k d below
    by bound.MinBytesPerRow Height = s.fits_row.least k d below
    by bound.MaxBytesPerRow Width = s.max_row.1 k d below
    by bound.MaxBytesPerRow Height = s.max_row.1 k d below
    by bound.BytesPerRowDivisor Width = s.fits_row.divisors k d below
    by bound.BytesPerRowDivisor Height = s.fits_row.divisors k d below
    by bound.StartOffsetDivisor Width = (s.start Width).1.each k d below
    by bound.StartOffsetDivisor Height = (s.start Width).1.each k d below
    by bound.DisplayRectAlignment Width = (s.display Width).1.each k d below
    by bound.DisplayRectAlignment Height = (s.display Height).1.each k d below
    by bound.RequiredMinSize Width = s.min_width.1.1.1.1 k d below
    by bound.RequiredMinSize Height = s.min_height.1.1.1.1 k d below
    by bound.RequiredMaxSize Width = s.fits_width.required k d below
    by bound.RequiredMaxSize Height = s.fits_height.required k d below
    by bound.MaxWidthTimesHeight Width = s.area.1 k d below
    by bound.MaxWidthTimesHeight Height = s.area.1 k d below

  -- their numbers are within their types
  in_range : IsInRange (bounds_of o es s)
  in_range bound.MinSize Width = omega (arith, s.min_width.1.1.0)
  in_range bound.MinSize Height = omega (arith, s.min_height.1.1.0)
  in_range bound.MaxSize Width = s.max_width.0
  in_range bound.MaxSize Height = s.max_height.0
  in_range bound.SizeAlignment Width = s.max_width.0
  in_range bound.SizeAlignment Height = s.max_height.0
  in_range bound.MinBytesPerRow Width = s.max_row.0
  in_range bound.MinBytesPerRow Height = s.max_row.0
  in_range bound.MaxBytesPerRow Width = s.max_row.0
  in_range bound.MaxBytesPerRow Height = s.max_row.0
  in_range bound.BytesPerRowDivisor Width = s.max_row.0
  in_range bound.BytesPerRowDivisor Height = s.max_row.0
  in_range bound.StartOffsetDivisor Width = (s.start Width).1.small
  in_range bound.StartOffsetDivisor Height = (s.start Width).1.small
  in_range bound.DisplayRectAlignment Width = (s.display Width).1.small
  in_range bound.DisplayRectAlignment Height = (s.display Height).1.small
  in_range bound.RequiredMinSize Width = s.min_width.1.1.0
  in_range bound.RequiredMinSize Height = s.min_height.1.1.0
  in_range bound.RequiredMaxSize Width = s.max_width.0
  in_range bound.RequiredMaxSize Height = s.max_height.0
  in_range bound.MaxWidthTimesHeight Width = s.area.0
  in_range bound.MaxWidthTimesHeight Height = s.area.0

  -- the image itself
  abbrev pub the_image : AnImage
  the_image = record { width = s.width; height = s.height; row = s.row }

  pub sound_bounds : IsSoundBounds o (bounds_of o es s) the_image
  sound_bounds = record {
    in_range = in_range;
    suits = record { width = s.fits_width.own; height = s.fits_height.own; row = s.fits_row.own };
    required = record { width = omega arith; height = omega arith };
    admitted = record {
      min_width = omega arith;
      min_height = omega arith;
      max_width = omega arith;
      max_height = omega arith;
      width_alignment = dvd_refl s.width;
      height_alignment = dvd_refl s.height;
      min_row = omega arith;
      max_row = omega arith;
      row_divisor = dvd_refl s.row;
      row_bytes = s.fits_row.row_bytes;
      area = omega arith;
    };
    large = record { width = omega arith; height = omega arith };
  }

-- a line of bounds that is true of a list
abbrev pub Line : Offer → List ImageBounds → Type 0
Line o es = (field : Field) × IsBoundsLine field o es

-- a number that is up to others is so where a greater one is
up_to_too : (limit m n : ℕ) (greatest : ImageBounds → ℕ) (es : List ImageBounds) → m ≤ n → n ≤ limit → All (λ e. n ≤ greatest e) es
    → (m ≤ limit) × All (λ e. m ≤ greatest e) es
up_to_too limit m n greatest es less small maxs =
    (omega (arith, less, small), All-weaker (λ e. n ≤ greatest e) (λ e. m ≤ greatest e) (λ e below. omega (arith, less, below)) es maxs)

module _ (o : Offer) (es : List ImageBounds) (alignments : AlignmentsMeet o es) (divisors : DivisorsMeet o es)
    (start : MeetsIn bound.StartOffsetDivisor o es) (display : MeetsIn bound.DisplayRectAlignment o es)
    (min_width : (n : ℕ) × Between (λ e. e.min_size.width) (λ e. e.required_min_size.width) es n)
    (min_height : (n : ℕ) × Between (λ e. e.min_size.height) (λ e. e.required_min_size.height) es n) where
  the_width : HasLeast (FitsWidth o es)
  the_width = by (least_above (width_alignment_of o) (λ e. e.size_alignment.width) (λ e. e.min_size.width) (λ e. e.required_max_size.width) 0 es (alignments Width)) where
    by : HasLeast (Above (width_alignment_of o) (λ e. e.size_alignment.width) (λ e. e.min_size.width) (λ e. e.required_max_size.width) 0 es) → HasLeast (FitsWidth o es)
    by l = record {
      number = l.number;
      holds = record { some = l.holds.0; own = l.holds.1.0; alignments = l.holds.1.1.0; least = l.holds.1.1.1.0; required = l.holds.1.1.1.1.0 };
      least = λ k fits. l.least k (fits.some, (fits.own, (fits.alignments, (fits.least, (fits.required, omega arith)))));
    }

  the_height : HasLeast (FitsHeight o es)
  the_height = by (least_above (height_alignment_of o) (λ e. e.size_alignment.height) (λ e. e.min_size.height) (λ e. e.required_max_size.height) 0 es (alignments Height)) where
    by : HasLeast (Above (height_alignment_of o) (λ e. e.size_alignment.height) (λ e. e.min_size.height) (λ e. e.required_max_size.height) 0 es) → HasLeast (FitsHeight o es)
    by l = record {
      number = l.number;
      holds = record { some = l.holds.0; own = l.holds.1.0; alignments = l.holds.1.1.0; least = l.holds.1.1.1.0; required = l.holds.1.1.1.1.0 };
      least = λ k fits. l.least k (fits.some, (fits.own, (fits.alignments, (fits.least, (fits.required, omega arith)))));
    }

  the_row : (w : ℕ) → HasLeast (FitsRow o es w)
  the_row w = by (least_above (row_divisor_of o) (λ e. e.bytes_per_row_divisor) (λ e. e.min_bytes_per_row) (λ e. 0) (row_bytes_of o w) es (divisors Width)) where
    by : HasLeast (Above (row_divisor_of o) (λ e. e.bytes_per_row_divisor) (λ e. e.min_bytes_per_row) (λ e. 0) (row_bytes_of o w) es) → HasLeast (FitsRow o es w)
    by l = record {
      number = l.number;
      holds = record { some = l.holds.0; own = l.holds.1.0; divisors = l.holds.1.1.0; least = l.holds.1.1.1.0; row_bytes = l.holds.1.1.1.1.1 };
      least = λ k fits. l.least k (fits.some, (fits.own, (fits.divisors, (fits.least, ((λ i e below. omega arith), fits.row_bytes)))));
    }

  -- the row of the least width is the least of all
  least_of_rows : (w r : ℕ) → FitsWidth o es w → FitsRow o es w r → (the_row the_width.number).number ≤ r
  least_of_rows w r wide long =
      let mono = row_bytes_mono o the_width.number w (the_width.least w wide) in
      (the_row the_width.number).least r (record { some = long.some; own = long.own; divisors = long.divisors; least = long.least; row_bytes = omega (arith, mono, long.row_bytes) })

  by_row : (the_width.number ≤ most_number) × All (λ e. the_width.number ≤ e.max_size.width) es
      → (the_height.number ≤ most_number) × All (λ e. the_height.number ≤ e.max_size.height) es
      → (the_width.number * the_height.number ≤ 18446744073709551615) × All (λ e. the_width.number * the_height.number ≤ e.max_width_times_height) es
      → Line o es ⊎ Smallest o es
  by_row max_width max_height area = elim (told_up_to most_number (the_row the_width.number).number (λ e. e.max_bytes_per_row) es) as (λ _. Line o es ⊎ Smallest o es) [
    | inl max_row ↦ inr (record {
      alignments = alignments;
      divisors = divisors;
      start = start;
      display = display;
      min_width = min_width;
      min_height = min_height;
      width = the_width.number;
      height = the_height.number;
      row = (the_row the_width.number).number;
      fits_width = the_width.holds;
      fits_height = the_height.holds;
      fits_row = (the_row the_width.number).holds;
      least_row = least_of_rows;
      least_height = the_height.least;
      max_width = max_width;
      max_height = max_height;
      area = area;
      max_row = max_row;
    })
    | inr above ↦ inl (
      field.MaxBytesPerRow,
      (
        alignments,
        divisors,
        λ w r small wide long maxs.
            above (up_to_too most_number (the_row the_width.number).number r (λ e. e.max_bytes_per_row) es (least_of_rows w r wide long) small maxs),
      ),
    )
  ]

  by_area : (the_width.number ≤ most_number) × All (λ e. the_width.number ≤ e.max_size.width) es
      → (the_height.number ≤ most_number) × All (λ e. the_height.number ≤ e.max_size.height) es → Line o es ⊎ Smallest o es
  by_area max_width max_height =
      elim (told_up_to 18446744073709551615 (the_width.number * the_height.number) (λ e. e.max_width_times_height) es) as (λ _. Line o es ⊎ Smallest o es) [
        | inl area ↦ by_row max_width max_height area
        | inr above ↦ inl (
          field.MaxWidthTimesHeight,
          (
            alignments,
            λ w h small wide high maxs.
                above (up_to_too 18446744073709551615 (the_width.number * the_height.number) (w * h) (λ e. e.max_width_times_height) es
                (mul-le-mul (the_width.least w wide) (the_height.least h high)) small maxs),
          ),
        )
      ]

  by_height : (the_width.number ≤ most_number) × All (λ e. the_width.number ≤ e.max_size.width) es → Line o es ⊎ Smallest o es
  by_height max_width = elim (told_up_to most_number the_height.number (λ e. e.max_size.height) es) as (λ _. Line o es ⊎ Smallest o es) [
    | inl max_height ↦ by_area max_width max_height
    | inr above ↦ inl (
      field.MaxSize,
      (
        alignments,
        inr (λ h small high maxs.
            above (up_to_too most_number the_height.number h (λ e. e.max_size.height) es (the_height.least h high) small maxs)),
      ),
    )
  ]

  pub by_width : Line o es ⊎ Smallest o es
  by_width = elim (told_up_to most_number the_width.number (λ e. e.max_size.width) es) as (λ _. Line o es ⊎ Smallest o es) [
    | inl max_width ↦ by_height max_width
    | inr above ↦ inl (
      field.MaxSize,
      (
        alignments,
        inl (λ w small wide maxs.
            above (up_to_too most_number the_width.number w (λ e. e.max_size.width) es (the_width.least w wide) small maxs)),
      ),
    )
  ]

-- numbers from 1 to the limit between those of a list: some, or none
between_or_none : (least greatest : ImageBounds → ℕ) (es : List ImageBounds)
    → ((n : ℕ) × Between least greatest es n)
    ⊎ ((n : ℕ) → 1 ≤ n → n ≤ most_number → All (λ e. least e ≤ n) es → All (λ e. n ≤ greatest e) es → ⊥)
between_or_none least greatest es = by (search_below (Between least greatest es) (told_between least greatest es) (suc most_number)) where
  by : HasLeast (Between least greatest es) ⊎ ((k : ℕ) → k < suc most_number → ¬ Between least greatest es k)
      → ((n : ℕ) × Between least greatest es n)
      ⊎ ((n : ℕ) → 1 ≤ n → n ≤ most_number → All (λ e. least e ≤ n) es → All (λ e. n ≤ greatest e) es → ⊥)
  by (inl found) = inl (found.number, found.holds)
  by (inr none) = inr (λ n some small mins maxs. none n (omega (arith, small)) (some, (small, (mins, maxs))))

module _ (o : Offer) (es : List ImageBounds) where
  by_required : AlignmentsMeet o es → DivisorsMeet o es → MeetsIn bound.StartOffsetDivisor o es → MeetsIn bound.DisplayRectAlignment o es → Line o es ⊎ Smallest o es
  by_required alignments divisors start display =
      elim (between_or_none (λ e. e.min_size.width) (λ e. e.required_min_size.width) es) as (λ _. Line o es ⊎ Smallest o es) [
        | inr none ↦ inl (field.RequiredMinSize, inl none)
        | inl width ↦ elim (between_or_none (λ e. e.min_size.height) (λ e. e.required_min_size.height) es) as (λ _. Line o es ⊎ Smallest o es) [
          | inr none ↦ inl (field.RequiredMinSize, inr none)
          | inl height ↦ by_width o es alignments divisors start display width height
        ]
      ]

  pub smallest_or_line : Line o es ⊎ Smallest o es
  smallest_or_line = elim (told_meets bound.SizeAlignment o es) as (λ _. Line o es ⊎ Smallest o es) [
    | inr fails ↦ inl (field.SizeAlignment, fails)
    | inl alignments ↦ elim (told_meets bound.BytesPerRowDivisor o es) as (λ _. Line o es ⊎ Smallest o es) [
      | inr fails ↦ inl (field.BytesPerRowDivisor, fails)
      | inl divisors ↦ elim (told_meets bound.StartOffsetDivisor o es) as (λ _. Line o es ⊎ Smallest o es) [
        | inr fails ↦ inl (field.StartOffsetDivisor, fails)
        | inl start ↦ elim (told_meets bound.DisplayRectAlignment o es) as (λ _. Line o es ⊎ Smallest o es) [
          | inr fails ↦ inl (field.DisplayRectAlignment, fails)
          | inl display ↦ by_required alignments divisors start display
        ]
      ]
    ]
  ]
