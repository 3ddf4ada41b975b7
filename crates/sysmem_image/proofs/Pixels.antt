-- Rows that end at a pixel.
use Rattle.std.proofs.Common.{rules, ◌≡◌, ◌↔◌, ℕ, zero, suc, ◌*◌, ◌%◌, ◌≤◌, ◌==◌, max, inl, inr, Bool, true, false, refl, sym, subst, arith}
use Rattle.std.specs.Prelude.{if◌then◌else◌}
use Rattle.std.specs.Int.{◌∣◌}
use Rattle.std.proofs.Math.Nat.{mul-dvd-mul_left, mul-dvd-mul_right, dvd-mul_left, dvd-mul_right, dvd_of_mul-dvd-mul_left, mul-pos}
use Rattle.std.proofs.lemmas.Bool.{cases_lt, eqb-true, eqb-false}
use Rattle.std.proofs.lemmas.Nat.Gcd.{dvd_of_mod-eq-zero, dvd_refl, dvd_trans}
use Rattle.sysmem_image.specs.Entries.{effective, pixel_multiple, row_divisor_asked}
use Rattle.sysmem_formats.specs.declared.offer.Offer.{Offer}
use Rattle.sysmem_formats.specs.declared.offer.Offer.TheVariants.{NoImage, Image}
use Rattle.sysmem_formats.specs.declared.pixel_format.PixelFormat.{PixelFormat}
use Rattle.sysmem_formats.specs.Layout.{bytes_per_pixel_of, pixel_bytes}
use Rattle.sysmem_image.specs.declared.entry.EntryBounds.{EntryBounds}
use Rattle.sysmem_image.specs.Fields.{MinSize, MaxSize, SizeAlignment, MinBytesPerRow, MaxBytesPerRow, BytesPerRowDivisor, StartOffsetDivisor, DisplayRectAlignment, RequiredMinSize, RequiredMaxSize, MaxWidthTimesHeight, Width, Height, Keeps, rule_of, value}
use Rattle.sysmem_image.specs.Laws.{EffectiveKeeps, EffectiveAdmits}
use Rattle.sysmem_image.proofs.Meets.{in_both}
use Rattle.sysmem_image.specs.Multiples.{IsLcm}
use Rattle.sysmem_image.proofs.Divide.{divides_remainder}

-- a common multiple of both, times either, is one of their product
joins_left : (p d k : ℕ) → d ∣ k → p * d ∣ k * p
joins_left p d k r = let e : p * k ≡ k * p = omega arith in subst (λ z. p * d ∣ z) e (mul-dvd-mul_left d p r)

joins_right : (p d k : ℕ) → p ∣ k → p * d ∣ k * d
joins_right p d k q = mul-dvd-mul_right p q d

-- so it is, times the remainder
joins_rest : (p d k : ℕ) → p ∣ k → d ∣ k → p * d ∣ k * (d % p)
joins_rest p d k q r = divides_remainder (p * d) k d p (joins_right p d k q) (joins_left p d k r)

joins_next : (p d k : ℕ) → p ∣ k → d ∣ k → p * d ∣ k * (p % (d % p))
joins_next p d k q r = divides_remainder (p * d) k p (d % p) (joins_left p d k r) (joins_rest p d k q r)

-- a common multiple of both is one of the divisor times the pixel's
-- bytes, divided by what they share
least_of : (p d k : ℕ) → p ∣ k → d ∣ k → (g : ℕ) → p * d ∣ k * g → g ≡ 1 → p * d ∣ k
least_of p d k q r g joins one = let e : k * g ≡ k = rw one (omega arith) in subst (λ z. p * d ∣ z) e joins

-- where the divisor is no multiple of the pixel's bytes and its double is
double_least : (p d k : ℕ) → p ≤ 4 → (d % p ≡ 0 → ⊥) → 2 * d % p ≡ 0 → p ∣ k → d ∣ k → 2 * d ∣ k
double_least zero d k small uneven even q r = absurd (uneven (omega arith))
double_least (suc zero) d k small uneven even q r = absurd (uneven (omega arith))
double_least (suc (suc zero)) d k small uneven even q r = least_of 2 d k q r (d % 2) (joins_rest 2 d k q r) (omega (arith, uneven))
double_least (suc (suc (suc zero))) d k small uneven even q r = absurd (uneven (omega (arith, even)))
double_least (suc (suc (suc (suc zero)))) d k small uneven even q r =
    let rest : d % 4 ≡ 2 = omega (arith, uneven, even) in
    let joins : 4 * d ∣ k * 2 = subst (λ z. 4 * d ∣ k * z) rest (joins_rest 4 d k q r) in
    let e : 2 * (2 * d) ≡ 4 * d = omega arith in
    let f : k * 2 ≡ 2 * k = omega arith in
    dvd_of_mul-dvd-mul_left (2 * d) (omega arith) (subst (λ z. z ∣ 2 * k) (sym e) (subst (λ z. 4 * d ∣ z) f joins))
double_least (suc (suc (suc (suc (suc p))))) d k small uneven even q r = absurd (omega arith)

-- where its double isn't one either
product_least : (p d k : ℕ) → 1 ≤ p → p ≤ 4 → (d % p ≡ 0 → ⊥) → (2 * d % p ≡ 0 → ⊥) → p ∣ k → d ∣ k → p * d ∣ k
product_least zero d k some small uneven odd q r = absurd (omega arith)
product_least (suc zero) d k some small uneven odd q r = absurd (uneven (omega arith))
product_least (suc (suc zero)) d k some small uneven odd q r = absurd (odd (omega arith))
product_least (suc (suc (suc zero))) d k some small uneven odd q r = elim (cases_lt (d % 3) 2) as (λ _. 3 * d ∣ k) [
  | inl one ↦ least_of 3 d k q r (d % 3) (joins_rest 3 d k q r) (omega (arith, uneven, one))
  | inr two ↦ let rest : d % 3 ≡ 2 = omega (arith, two) in
      let joins : 3 * d ∣ k * (3 % 2) = subst (λ z. 3 * d ∣ k * (3 % z)) rest (joins_next 3 d k q r) in
      least_of 3 d k q r (3 % 2) joins refl
]
product_least (suc (suc (suc (suc zero)))) d k some small uneven odd q r = elim (cases_lt (d % 4) 2) as (λ _. 4 * d ∣ k) [
  | inl one ↦ least_of 4 d k q r (d % 4) (joins_rest 4 d k q r) (omega (arith, uneven, one))
  | inr two ↦ let rest : d % 4 ≡ 3 = omega (arith, two, odd) in
      let joins : 4 * d ∣ k * (4 % 3) = subst (λ z. 4 * d ∣ k * (4 % z)) rest (joins_next 4 d k q r) in
      least_of 4 d k q r (4 % 3) joins refl
]
product_least (suc (suc (suc (suc (suc p))))) d k some small uneven odd q r = absurd (omega arith)

-- the pixel's bytes and the divisor have this least common multiple
pub pixel_lcm : (p d : ℕ) → 1 ≤ p → p ≤ 4 → IsLcm p d (pixel_multiple p d)
pixel_lcm p d some small = by_tests (d % p == 0) (2 * d % p == 0) refl refl where
  by_tests : (s t : Bool) → (d % p == 0) ≡ s → (2 * d % p == 0) ≡ t → IsLcm p d (if s then d else if t then 2 * d else p * d)
  by_tests true t whole double = record {
    left = dvd_of_mod-eq-zero p (eqb-true (d % p) 0 whole);
    right = dvd_refl d;
    least = λ k q r. r;
  }
  by_tests false true whole double = record {
    left = dvd_of_mod-eq-zero p (eqb-true (2 * d % p) 0 double);
    right = dvd-mul_left d 2;
    least = λ k q r. double_least p d k small (eqb-false (d % p) 0 whole) (eqb-true (2 * d % p) 0 double) q r;
  }
  by_tests false false whole double = record {
    left = dvd-mul_right p d;
    right = dvd-mul_left d p;
    least = λ k q r. product_least p d k some small (eqb-false (d % p) 0 whole) (eqb-false (2 * d % p) 0 double) q r;
  }

-- it isn't 0
multiple_some : (p d : ℕ) → 1 ≤ p → 1 ≤ d → 1 ≤ pixel_multiple p d
multiple_some p d some_p some_d = by_tests (d % p == 0) (2 * d % p == 0) where
  by_tests : (s t : Bool) → 1 ≤ (if s then d else if t then 2 * d else p * d)
  by_tests true t = some_d
  by_tests false true = omega (arith, some_d)
  by_tests false false = mul-pos some_p some_d

-- a pixel has 1 to 4 bytes
pixel_some : (o : Offer) → (1 ≤ bytes_per_pixel_of o) × (bytes_per_pixel_of o ≤ 4)
pixel_some NoImage = (omega arith, omega arith)
pixel_some (Image pair colour) = of_format pair.format where
  of_format : (f : PixelFormat) → (1 ≤ pixel_bytes f) × (pixel_bytes f ≤ 4)
  of_format f = search rules

-- a multiple of the row divisor that an entry puts on an offer is one of its own, and of a
-- pixel's bytes where it asks for them
divisor_asked : (o : Offer) (e : EntryBounds) (n : ℕ) → (max (row_divisor_asked o e) 1 ∣ n) ↔ ((e.asked.bytes_per_row_divisor ∣ n) × (e.at_pixel_boundary ≡ true → bytes_per_pixel_of o ∣ n))
divisor_asked o e n = by_flag e.at_pixel_boundary where
  by_flag : (b : Bool) → (max (if b then pixel_multiple (bytes_per_pixel_of o) e.asked.bytes_per_row_divisor else e.asked.bytes_per_row_divisor) 1 ∣ n)
      ↔ ((e.asked.bytes_per_row_divisor ∣ n) × (b ≡ true → bytes_per_pixel_of o ∣ n))
  by_flag false =
      let same : max e.asked.bytes_per_row_divisor 1 ≡ e.asked.bytes_per_row_divisor = omega (arith, e.asked.row_divisor_some) in (
        λ h. (subst (λ z. z ∣ n) same h, λ never. absurd (cc never)),
        λ both. subst (λ z. z ∣ n) (sym same) both.0,
      )
  by_flag true =
      let is = pixel_lcm (bytes_per_pixel_of o) e.asked.bytes_per_row_divisor (pixel_some o).0 (pixel_some o).1 in
      let some = multiple_some (bytes_per_pixel_of o) e.asked.bytes_per_row_divisor (pixel_some o).0 e.asked.row_divisor_some in
      let same : max (pixel_multiple (bytes_per_pixel_of o) e.asked.bytes_per_row_divisor) 1 ≡ pixel_multiple (bytes_per_pixel_of o) e.asked.bytes_per_row_divisor = omega (arith, some) in (
        λ h. let m = subst (λ z. z ∣ n) same h in (dvd_trans e.asked.bytes_per_row_divisor is.right m, λ t. dvd_trans (bytes_per_pixel_of o) is.left m),
        λ both. subst (λ z. z ∣ n) (sym same) (is.least n (both.1 refl) both.0),
      )

-- what keeps to the bounds that an entry puts on an offer keeps to its own, with whole
-- pixels in a row where it asks for them
pub effective_keeps : EffectiveKeeps
effective_keeps o e s =
    let rows = divisor_asked o e.bounds s.bytes_per_row_divisor in (
      λ t. (
        λ f d. elim f as (λ f. Keeps (rule_of f) (value f d e.bounds.asked) (value f d s)) [
          | BytesPerRowDivisor ↦ (rows.0 (t BytesPerRowDivisor d)).0
          | MinSize ↦ in_both MinSize s e.bounds.asked (t MinSize Width) (t MinSize Height) d
          | MaxSize ↦ in_both MaxSize s e.bounds.asked (t MaxSize Width) (t MaxSize Height) d
          | SizeAlignment ↦ in_both SizeAlignment s e.bounds.asked (t SizeAlignment Width) (t SizeAlignment Height) d
          | MinBytesPerRow ↦ t MinBytesPerRow d
          | MaxBytesPerRow ↦ t MaxBytesPerRow d
          | StartOffsetDivisor ↦ t StartOffsetDivisor d
          | DisplayRectAlignment ↦ in_both DisplayRectAlignment s e.bounds.asked (t DisplayRectAlignment Width) (t DisplayRectAlignment Height) d
          | RequiredMinSize ↦ in_both RequiredMinSize s e.bounds.asked (t RequiredMinSize Width) (t RequiredMinSize Height) d
          | RequiredMaxSize ↦ in_both RequiredMaxSize s e.bounds.asked (t RequiredMaxSize Width) (t RequiredMaxSize Height) d
          | MaxWidthTimesHeight ↦ t MaxWidthTimesHeight d
        ],
        (rows.0 (t BytesPerRowDivisor Width)).1,
      ),
      λ both f d. elim f as (λ f. Keeps (rule_of f) (value f d (effective o e)) (value f d s)) [
        | BytesPerRowDivisor ↦ rows.1 (both.0 BytesPerRowDivisor d, both.1)
        | MinSize ↦ in_both MinSize s (effective o e) (both.0 MinSize Width) (both.0 MinSize Height) d
        | MaxSize ↦ in_both MaxSize s (effective o e) (both.0 MaxSize Width) (both.0 MaxSize Height) d
        | SizeAlignment ↦ in_both SizeAlignment s (effective o e) (both.0 SizeAlignment Width) (both.0 SizeAlignment Height) d
        | MinBytesPerRow ↦ both.0 MinBytesPerRow d
        | MaxBytesPerRow ↦ both.0 MaxBytesPerRow d
        | StartOffsetDivisor ↦ both.0 StartOffsetDivisor d
        | DisplayRectAlignment ↦ in_both DisplayRectAlignment s (effective o e) (both.0 DisplayRectAlignment Width) (both.0 DisplayRectAlignment Height) d
        | RequiredMinSize ↦ in_both RequiredMinSize s (effective o e) (both.0 RequiredMinSize Width) (both.0 RequiredMinSize Height) d
        | RequiredMaxSize ↦ in_both RequiredMaxSize s (effective o e) (both.0 RequiredMaxSize Width) (both.0 RequiredMaxSize Height) d
        | MaxWidthTimesHeight ↦ both.0 MaxWidthTimesHeight d
      ],
    )

-- they admit the images of its own bounds, with whole pixels in a row where it asks for them
pub effective_admits : EffectiveAdmits
effective_admits o e i =
    let rows = divisor_asked o e.bounds i.row in (
      λ a. (
        record {
          min_width = a.min_width;
          min_height = a.min_height;
          max_width = a.max_width;
          max_height = a.max_height;
          width_alignment = a.width_alignment;
          height_alignment = a.height_alignment;
          min_row = a.min_row;
          max_row = a.max_row;
          row_divisor = (rows.0 a.row_divisor).0;
          row_bytes = a.row_bytes;
          area = a.area;
        },
        (rows.0 a.row_divisor).1,
      ),
      λ both. let a = both.0 in record {
        min_width = a.min_width;
        min_height = a.min_height;
        max_width = a.max_width;
        max_height = a.max_height;
        width_alignment = a.width_alignment;
        height_alignment = a.height_alignment;
        min_row = a.min_row;
        max_row = a.max_row;
        row_divisor = rows.1 (a.row_divisor, both.1);
        row_bytes = a.row_bytes;
        area = a.area;
      },
    )
