-- Keeping to bounds, by what their fields are merged to.
use Rattle.std.proofs.Common.{subst, sym, refl, ◌≡◌, ◌↔◌, ℕ, ◌≤◌, Bool, IsTrue, List, [], ◌∷◌, Option, Some, None, arith}
use Rattle.sysmem_counts.specs.declared.field.Field.{Field}
use Rattle.sysmem_counts.specs.declared.field.Field.TheVariants as field
use Rattle.std.specs.Int.{◌∣◌}
use Rattle.std.proofs.lemmas.Nat.Gcd.{dvd_trans, dvd_refl, dvd_antisymm}
use Rattle.sysmem_image.specs.declared.bounds.ImageBounds.{ImageBounds}
use Rattle.sysmem_image.specs.Size.{DividesSize, IsSizeInRange}
use Rattle.sysmem_counts.specs.Bounds.{most_number}
use Rattle.sysmem_formats.specs.declared.offer.Offer.{Offer}
use Rattle.sysmem_formats.specs.Layout.{width_alignment_of, height_alignment_of, row_divisor_of}
use Rattle.sysmem_image.specs.Fields.{Bound, MinSize, MaxSize, SizeAlignment, MinBytesPerRow, MaxBytesPerRow, BytesPerRowDivisor, StartOffsetDivisor, DisplayRectAlignment, RequiredMinSize, RequiredMaxSize, MaxWidthTimesHeight, Side, Width, Height, Rule, Greatest, Least, Multiple, Keeps, KeepsIn, KeepsEach, field_of, rule_of, value}
use Rattle.sysmem_image.specs.Bounds.{IsTighter, KeepsField, IsInRange, Suits}
use Rattle.sysmem_image.specs.Merged.{IsMerged, IsMergedBy}

-- a number keeps to itself
pub keeps_refl : (r : Rule) (n : ℕ) → Keeps r n n
keeps_refl Greatest n = omega arith
keeps_refl Least n = omega arith
keeps_refl Multiple n = dvd_refl n

-- what keeps to a number keeps to what this keeps to
pub keeps_trans : (r : Rule) (a b c : ℕ) → Keeps r b a → Keeps r c b → Keeps r c a
keeps_trans Greatest a b c p q = omega (arith, p, q)
keeps_trans Least a b c p q = omega (arith, p, q)
keeps_trans Multiple a b c p q = dvd_trans c q p

-- numbers that keep to each other are one
pub keeps_both : (r : Rule) (a b : ℕ) → Keeps r a b → Keeps r b a → a ≡ b
keeps_both Greatest a b p q = omega (arith, p, q)
keeps_both Least a b p q = omega (arith, p, q)
keeps_both Multiple a b p q = dvd_antisymm p q

-- a number keeps to the one that was merged of two exactly where it keeps to both
pub keeps_meet : (r : Rule) (a b m n : ℕ) → IsMergedBy r a b m → Keeps r m n ↔ (Keeps r a n × Keeps r b n)
keeps_meet Greatest a b m n is = (λ h. (omega (arith, is, h), omega (arith, is, h)), λ both. omega (arith, is, both.0, both.1))
keeps_meet Least a b m n is = (λ h. (omega (arith, is, h), omega (arith, is, h)), λ both. omega (arith, is, both.0, both.1))
keeps_meet Multiple a b m n is = (λ h. (dvd_trans a is.left h, dvd_trans b is.right h), λ both. is.least n both.0 both.1)

-- bounds keep to merged bounds exactly where they keep to both
pub merged_meet : (a b m : ImageBounds) → IsMerged a b m → (s : ImageBounds) → IsTighter s m ↔ (IsTighter s a × IsTighter s b)
merged_meet a b m is s =
    let meet = λ (f : Bound) (d : Side). keeps_meet (rule_of f) (value f d a) (value f d b) (value f d m) (value f d s) (is f d) in (
      λ h. (λ f d. ((meet f d).0 (h f d)).0, λ f d. ((meet f d).0 (h f d)).1),
      λ both f d. (meet f d).1 (both.0 f d, both.1 f d),
    )

-- bounds keep to themselves
pub tighter_refl : (a : ImageBounds) → IsTighter a a
tighter_refl a = λ f d. keeps_refl (rule_of f) (value f d a)

-- what keeps to bounds keeps to what these keep to
pub tighter_trans : (a b c : ImageBounds) → IsTighter a b → IsTighter b c → IsTighter a c
tighter_trans a b c p q = λ f d. keeps_trans (rule_of f) (value f d a) (value f d b) (value f d c) (p f d) (q f d)

-- bounds that keep to each other have the same numbers
pub tighter_both : (a b : ImageBounds) → IsTighter a b → IsTighter b a → (f : Bound) (d : Side) → value f d a ≡ value f d b
tighter_both a b p q f d = keeps_both (rule_of f) (value f d a) (value f d b) (q f d) (p f d)

-- bounds that keep to others in both dimensions of a field keep to them in the field
pub in_both : (f : Bound) (a b : ImageBounds) → Keeps (rule_of f) (value f Width b) (value f Width a) → Keeps (rule_of f) (value f Height b) (value f Height a) → KeepsIn f a b
in_both f a b w h Width = w
in_both f a b w h Height = h

-- the field of bounds that has a name
abbrev bound_of : Field → Option Bound
bound_of field.MinSize = Some MinSize
bound_of field.MaxSize = Some MaxSize
bound_of field.SizeAlignment = Some SizeAlignment
bound_of field.MinBytesPerRow = Some MinBytesPerRow
bound_of field.MaxBytesPerRow = Some MaxBytesPerRow
bound_of field.BytesPerRowDivisor = Some BytesPerRowDivisor
bound_of field.StartOffsetDivisor = Some StartOffsetDivisor
bound_of field.DisplayRectAlignment = Some DisplayRectAlignment
bound_of field.RequiredMinSize = Some RequiredMinSize
bound_of field.RequiredMaxSize = Some RequiredMaxSize
bound_of field.MaxWidthTimesHeight = Some MaxWidthTimesHeight
bound_of _ = None

-- it is the one field of that name
bound_named : (f : Bound) → bound_of (field_of f) ≡ Some f
bound_named MinSize = refl
bound_named MaxSize = refl
bound_named SizeAlignment = refl
bound_named MinBytesPerRow = refl
bound_named MaxBytesPerRow = refl
bound_named BytesPerRowDivisor = refl
bound_named StartOffsetDivisor = refl
bound_named DisplayRectAlignment = refl
bound_named RequiredMinSize = refl
bound_named RequiredMaxSize = refl
bound_named MaxWidthTimesHeight = refl

one_name : (name : Field) (f g : Bound) → name ≡ field_of f → name ≡ field_of g → f ≡ g
one_name name f g is other =
    let left : bound_of name ≡ Some f = subst (λ n. bound_of n ≡ Some f) (sym is) (bound_named f) in
    let right : bound_of name ≡ Some g = subst (λ n. bound_of n ≡ Some g) (sym other) (bound_named g) in
    cc

-- bounds keep to others in the field of a name exactly where they do in that field
pub keeps_named : (f : Bound) (a b : ImageBounds) → KeepsIn f a b ↔ KeepsField (field_of f) a b
keeps_named f a b = (λ kept g same. subst (λ x. KeepsIn x a b) (one_name (field_of f) f g refl same) kept, λ kept. kept f refl)

-- a test that is exact of a field of bounds is exact of the field of its name
pub named_test : (name : Field) (f : Bound) (a b : ImageBounds) (test : Bool) → name ≡ field_of f → (IsTrue test → KeepsIn f a b) → (KeepsIn f a b → IsTrue test) → IsTrue test ↔ KeepsField name a b
named_test name f a b test is holds tests =
    let named = keeps_named f a b in
    rw is (λ t. named.0 (holds t), λ kept. tests (named.1 kept))

-- bounds whose numbers are within their types are in range
pub in_range_by : (b : ImageBounds) → IsSizeInRange b.min_size → IsSizeInRange b.max_size → IsSizeInRange b.size_alignment → b.min_bytes_per_row ≤ most_number → b.max_bytes_per_row ≤ most_number
    → b.bytes_per_row_divisor ≤ most_number → b.start_offset_divisor ≤ most_number → IsSizeInRange b.display_rect_alignment → IsSizeInRange b.required_min_size → IsSizeInRange b.required_max_size
    → b.max_width_times_height ≤ 18446744073709551615 → IsInRange b
in_range_by b n0 n1 n2 n3 n4 n5 n6 n7 n8 n9 n10 MinSize Width = n0.width
in_range_by b n0 n1 n2 n3 n4 n5 n6 n7 n8 n9 n10 MinSize Height = n0.height
in_range_by b n0 n1 n2 n3 n4 n5 n6 n7 n8 n9 n10 MaxSize Width = n1.width
in_range_by b n0 n1 n2 n3 n4 n5 n6 n7 n8 n9 n10 MaxSize Height = n1.height
in_range_by b n0 n1 n2 n3 n4 n5 n6 n7 n8 n9 n10 SizeAlignment Width = n2.width
in_range_by b n0 n1 n2 n3 n4 n5 n6 n7 n8 n9 n10 SizeAlignment Height = n2.height
in_range_by b n0 n1 n2 n3 n4 n5 n6 n7 n8 n9 n10 MinBytesPerRow d = n3
in_range_by b n0 n1 n2 n3 n4 n5 n6 n7 n8 n9 n10 MaxBytesPerRow d = n4
in_range_by b n0 n1 n2 n3 n4 n5 n6 n7 n8 n9 n10 BytesPerRowDivisor d = n5
in_range_by b n0 n1 n2 n3 n4 n5 n6 n7 n8 n9 n10 StartOffsetDivisor d = n6
in_range_by b n0 n1 n2 n3 n4 n5 n6 n7 n8 n9 n10 DisplayRectAlignment Width = n7.width
in_range_by b n0 n1 n2 n3 n4 n5 n6 n7 n8 n9 n10 DisplayRectAlignment Height = n7.height
in_range_by b n0 n1 n2 n3 n4 n5 n6 n7 n8 n9 n10 RequiredMinSize Width = n8.width
in_range_by b n0 n1 n2 n3 n4 n5 n6 n7 n8 n9 n10 RequiredMinSize Height = n8.height
in_range_by b n0 n1 n2 n3 n4 n5 n6 n7 n8 n9 n10 RequiredMaxSize Width = n9.width
in_range_by b n0 n1 n2 n3 n4 n5 n6 n7 n8 n9 n10 RequiredMaxSize Height = n9.height
in_range_by b n0 n1 n2 n3 n4 n5 n6 n7 n8 n9 n10 MaxWidthTimesHeight d = n10

-- bounds that keep to others keep to them in each field of a list
pub keeps_each : (fs : List Bound) (a b : ImageBounds) → IsTighter a b → KeepsEach fs a b
keeps_each [] a b t = tt
keeps_each (f ∷ fs) a b t = (t f, keeps_each fs a b t)

-- numbers equal to the offer's own divide the bounds' alignments and divisor
-- exactly where these suit the offer
pub suits_from : (o : Offer) (b : ImageBounds) (w h r : ℕ) → w ≡ width_alignment_of o → h ≡ height_alignment_of o → r ≡ row_divisor_of o → (DividesSize (record { width = w; height = h }) b.size_alignment × (r ∣ b.bytes_per_row_divisor)) ↔ Suits o b
suits_from o b w h r is_width is_height is_row = (
  λ both. record {
    width = subst (λ z. z ∣ b.size_alignment.width) is_width both.0.width;
    height = subst (λ z. z ∣ b.size_alignment.height) is_height both.0.height;
    row = subst (λ z. z ∣ b.bytes_per_row_divisor) is_row both.1;
  },
  λ s. (
    record {
      width = subst (λ z. z ∣ b.size_alignment.width) (sym is_width) s.width;
      height = subst (λ z. z ∣ b.size_alignment.height) (sym is_height) s.height;
    },
    subst (λ z. z ∣ b.bytes_per_row_divisor) (sym is_row) s.row,
  ),
)
