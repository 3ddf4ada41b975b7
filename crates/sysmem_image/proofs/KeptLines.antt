-- The lines that are read from what is kept of a list.
use Rattle.std.proofs.Common.{◌≡◌, ◌↔◌, ◌⊎◌, inl, inr, arith, refl, ℕ, ◌<◌, ◌≤◌, ◌*◌, Bool, true, false, not, nat_lt, IsTrue, List, Some, rules}
use Rattle.std.proofs.Math.Nat.{mul-le-mul}
use Rattle.std.proofs.lemmas.Bool.{cases_lt}
use Rattle.std.proofs.lemmas.Nat.Gcd.{dvd_trans}
use Rattle.sysmem_counts.specs.declared.field.Field.TheVariants as line
use Rattle.sysmem_formats.specs.declared.offer.Offer.{Offer}
use Rattle.sysmem_formats.specs.Layout.{width_alignment_of, height_alignment_of, row_divisor_of, row_bytes_of}
use Rattle.sysmem_image.specs.declared.bounds.ImageBounds.{ImageBounds}
use Rattle.sysmem_image.specs.declared.read.BoundsRead.{BoundsRead}
use Rattle.sysmem_image.specs.declared.size.Size.{Size}
use Rattle.sysmem_image.specs.Size.{IsSizeUpTo}
use Rattle.sysmem_counts.specs.Bounds.{most_number}
use Rattle.sysmem_image.specs.Corners.{IsLeastAbove}
use Rattle.sysmem_image.specs.Fields.{MinSize, MaxSize, SizeAlignment, MinBytesPerRow, MaxBytesPerRow, BytesPerRowDivisor, RequiredMinSize, RequiredMaxSize, MaxWidthTimesHeight, Width, Height}
use Rattle.sysmem_image.specs.Lines.{FitsWidth, FitsHeight, IsBoundsLine, AlignmentsMeet, DivisorsMeet, WidthAbove, HeightAbove}
use Rattle.sysmem_image.specs.Read.{size_in, number_in, IsRead, AreRead, FitLeast, FitsLeastRow}
use Rattle.sysmem_image.proofs.Layouts.{row_bytes_mono}

-- a test of equal numbers
pub test_of : {P : Type 0} (a b low high : ℕ) → a ≡ low → b ≡ high → (low < high) ↔ P → IsTrue (nat_lt a b) ↔ P
test_of a b low high same_low same_high exact = (
  λ test. exact.0 (let above : a < b = search (rules, test) in omega (arith, above, same_low, same_high)),
  λ holds.
      let below : low < high = exact.1 holds in
      let above : a < b = omega (arith, below, same_low, same_high) in
      search (rules, above),
)

-- the least multiple of the width's alignment fits, and no width that fits is less
width_fits : (o : Offer) (es : List ImageBounds) (k : BoundsRead) (alignment : Size) (w : ℕ) → IsRead SizeAlignment o es (Some (size_in alignment)) → AreRead o es k
    → IsLeastAbove alignment.width k.min_size.width k.required_max_size.width w → FitsWidth o es w × ((n : ℕ) → FitsWidth o es n → w ≤ n)
width_fits o es k alignment w aligned read l =
    let low = read.each MinSize Width in
    let large = read.each RequiredMaxSize Width in
    let some : 1 ≤ w = omega (arith, low.suits, l.from) in
    let own = dvd_trans (width_alignment_of o) (aligned Width).suits l.multiple in (
      record {
        some = some;
        own = own;
        alignments = ((aligned Width).exactly w own).0 l.multiple;
        least = (low.exactly w some).0 l.from;
        required = (large.exactly w (omega arith)).0 l.above;
      },
      λ n fits. l.least n (((aligned Width).exactly n fits.own).1 fits.alignments) ((low.exactly n fits.some).1 fits.least) ((large.exactly n (omega arith)).1 fits.required),
    )

-- the same of heights
height_fits : (o : Offer) (es : List ImageBounds) (k : BoundsRead) (alignment : Size) (h : ℕ) → IsRead SizeAlignment o es (Some (size_in alignment)) → AreRead o es k
    → IsLeastAbove alignment.height k.min_size.height k.required_max_size.height h → FitsHeight o es h × ((n : ℕ) → FitsHeight o es n → h ≤ n)
height_fits o es k alignment h aligned read l =
    let low = read.each MinSize Height in
    let large = read.each RequiredMaxSize Height in
    let some : 1 ≤ h = omega (arith, low.suits, l.from) in
    let own = dvd_trans (height_alignment_of o) (aligned Height).suits l.multiple in (
      record {
        some = some;
        own = own;
        alignments = ((aligned Height).exactly h own).0 l.multiple;
        least = (low.exactly h some).0 l.from;
        required = (large.exactly h (omega arith)).0 l.above;
      },
      λ n fits. l.least n (((aligned Height).exactly n fits.own).1 fits.alignments) ((low.exactly n fits.some).1 fits.least) ((large.exactly n (omega arith)).1 fits.required),
    )

-- the least sides, from the least multiples of both aligned
pub sides_fit : (o : Offer) (es : List ImageBounds) (k : BoundsRead) (alignment : Size) (w h : ℕ) → IsRead SizeAlignment o es (Some (size_in alignment)) → AreRead o es k
    → IsLeastAbove alignment.width k.min_size.width k.required_max_size.width w → IsLeastAbove alignment.height k.min_size.height k.required_max_size.height h → FitLeast o es w h
sides_fit o es k alignment w h aligned read wide high =
    let width = width_fits o es k alignment w aligned read wide in
    let height = height_fits o es k alignment h aligned read high in
    record { width = width.0; height = height.0; least_width = width.1; least_height = height.1 }

-- the least row, from the least multiple of its divisor
pub row_fits : (o : Offer) (es : List ImageBounds) (k : BoundsRead) (divisor w h r : ℕ) → IsRead BytesPerRowDivisor o es (Some (number_in divisor)) → AreRead o es k → FitLeast o es w h
    → IsLeastAbove divisor k.min_bytes_per_row (row_bytes_of o w) r → FitsLeastRow o es w r
row_fits o es k divisor w h r divisors read sides l =
    let low = read.each MinBytesPerRow Width in
    let merged = divisors Width in
    let some : 1 ≤ r = omega (arith, low.suits, l.from) in
    let own = dvd_trans (row_divisor_of o) merged.suits l.multiple in
    record {
      row = record { some = some; own = own; divisors = (merged.exactly r own).0 l.multiple; least = (low.exactly r some).0 l.from; row_bytes = l.above };
      least = λ v n wide long. l.least n ((merged.exactly n long.own).1 long.divisors) ((low.exactly n long.some).1 long.least)
          (omega (arith, row_bytes_mono o w v (sides.least_width v wide), long.row_bytes));
    }

-- min_size is above required_min_size exactly where the merged one is
pub required_line : (o : Offer) (es : List ImageBounds) (k : BoundsRead) (test : Bool) → IsTrue test ↔ IsSizeUpTo k.min_size k.required_min_size → AreRead o es k
    → IsTrue (not test) ↔ IsBoundsLine line.RequiredMinSize o es
required_line o es k true exact read = (
  λ no. absurd (cc no),
  λ above.
      let fits = exact.0 refl in
      elim above as (λ _. false ≡ true) [
        | inl unmet ↦ absurd (unmet k.min_size.width (read.each MinSize Width).suits (read.in_range MinSize Width)
            (((read.each MinSize Width).exactly k.min_size.width (read.each MinSize Width).suits).0 (omega arith))
            (((read.each RequiredMinSize Width).exactly k.min_size.width (read.in_range MinSize Width)).0 fits.width))
        | inr unmet ↦ absurd (unmet k.min_size.height (read.each MinSize Height).suits (read.in_range MinSize Height)
            (((read.each MinSize Height).exactly k.min_size.height (read.each MinSize Height).suits).0 (omega arith))
            (((read.each RequiredMinSize Height).exactly k.min_size.height (read.in_range MinSize Height)).0 fits.height))
      ],
)
required_line o es k false exact read = (
  λ _. elim (cases_lt k.required_min_size.width k.min_size.width) as (λ _. IsBoundsLine line.RequiredMinSize o es) [
    | inl above ↦ inl (λ n some small mins requireds.
        let left : k.min_size.width ≤ n = ((read.each MinSize Width).exactly n some).1 mins in
        let right : n ≤ k.required_min_size.width = ((read.each RequiredMinSize Width).exactly n small).1 requireds in
        let no : ⊥ = omega arith in
        no)
    | inr narrow ↦ elim (cases_lt k.required_min_size.height k.min_size.height) as (λ _. IsBoundsLine line.RequiredMinSize o es) [
      | inl above ↦ inr (λ n some small mins requireds.
          let left : k.min_size.height ≤ n = ((read.each MinSize Height).exactly n some).1 mins in
          let right : n ≤ k.required_min_size.height = ((read.each RequiredMinSize Height).exactly n small).1 requireds in
          let no : ⊥ = omega arith in
          no)
      | inr low ↦ absurd (let never : false ≡ true = exact.1 (record { width = narrow; height = low }) in cc)
    ]
  ],
  λ _. refl,
)

-- a least side is above max_size exactly where the corner's is
pub max_line : (o : Offer) (es : List ImageBounds) (k : BoundsRead) (w h : ℕ) → AreRead o es k → FitLeast o es w h → AlignmentsMeet o es
    → ((k.max_size.width < w) ⊎ (k.max_size.height < h)) ↔ IsBoundsLine line.MaxSize o es
max_line o es k w h read sides meet = (
  λ either. (
    meet,
    elim either as (λ _. WidthAbove o es ⊎ HeightAbove o es) [
      | inl above ↦ inl (λ n small fits maxima.
          let top : n ≤ k.max_size.width = ((read.each MaxSize Width).exactly n small).1 maxima in
          let no : ⊥ = omega (arith, sides.least_width n fits) in
          no)
      | inr above ↦ inr (λ n small fits maxima.
          let top : n ≤ k.max_size.height = ((read.each MaxSize Height).exactly n small).1 maxima in
          let no : ⊥ = omega (arith, sides.least_height n fits) in
          no)
    ],
  ),
  λ both. elim both.1 as (λ _. (k.max_size.width < w) ⊎ (k.max_size.height < h)) [
    | inl unmet ↦ elim (cases_lt k.max_size.width w) as (λ _. (k.max_size.width < w) ⊎ (k.max_size.height < h)) [
      | inl above ↦ inl above
      | inr inside ↦
          let small : w ≤ most_number = omega (arith, (read.each MaxSize Width).suits) in
          absurd (unmet w small sides.width (((read.each MaxSize Width).exactly w small).0 inside))
    ]
    | inr unmet ↦ elim (cases_lt k.max_size.height h) as (λ _. (k.max_size.width < w) ⊎ (k.max_size.height < h)) [
      | inl above ↦ inr above
      | inr inside ↦
          let small : h ≤ most_number = omega (arith, (read.each MaxSize Height).suits) in
          absurd (unmet h small sides.height (((read.each MaxSize Height).exactly h small).0 inside))
    ]
  ],
)

-- the product of the least sides is above max_width_times_height exactly where the corner's is
pub area_line : (o : Offer) (es : List ImageBounds) (k : BoundsRead) (w h : ℕ) → AreRead o es k → FitLeast o es w h → AlignmentsMeet o es
    → (k.max_width_times_height < w * h) ↔ IsBoundsLine line.MaxWidthTimesHeight o es
area_line o es k w h read sides meet =
    let merged = read.each MaxWidthTimesHeight Width in (
      λ above. (
        meet,
        λ v g small wide high maxima.
            let top : v * g ≤ k.max_width_times_height = (merged.exactly (v * g) small).1 maxima in
            let least : w * h ≤ v * g = mul-le-mul (sides.least_width v wide) (sides.least_height g high) in
            let no : ⊥ = omega arith in
            no,
      ),
      λ both. elim (cases_lt k.max_width_times_height (w * h)) as (λ _. k.max_width_times_height < w * h) [
        | inl above ↦ above
        | inr inside ↦
            let small : w * h ≤ 18446744073709551615 = omega (arith, inside, merged.suits) in
            absurd (both.1 w h small sides.width sides.height ((merged.exactly (w * h) small).0 inside))
      ],
    )

-- the least row is above max_bytes_per_row exactly where the corner's is
pub row_line : (o : Offer) (es : List ImageBounds) (k : BoundsRead) (w h r : ℕ) → AreRead o es k → FitLeast o es w h → FitsLeastRow o es w r → AlignmentsMeet o es → DivisorsMeet o es
    → (k.max_bytes_per_row < r) ↔ IsBoundsLine line.MaxBytesPerRow o es
row_line o es k w h r read sides row meet divisors =
    let merged = read.each MaxBytesPerRow Width in (
      λ above. (
        meet,
        divisors,
        λ v n small wide long maxima.
            let top : n ≤ k.max_bytes_per_row = (merged.exactly n small).1 maxima in
            let no : ⊥ = omega (arith, row.least v n wide long) in
            no,
      ),
      λ all. elim (cases_lt k.max_bytes_per_row r) as (λ _. k.max_bytes_per_row < r) [
        | inl above ↦ above
        | inr inside ↦
            let small : r ≤ most_number = omega (arith, inside, merged.suits) in
            absurd (all.2 w r small sides.width row.row ((merged.exactly r small).0 inside))
      ],
    )
