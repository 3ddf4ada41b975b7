-- The lines of the conflict table that speak of bounds, read from a
-- list of them in exact arithmetic.
use Rattle.std.specs.Prelude.{ℕ, ◌*◌, ◌≤◌, ◌⊎◌, List, [], ◌∷◌, ◌++◌, map, All}
use Rattle.std.specs.Int.{◌∣◌}
use Rattle.std.specs.List.{filter}
use Rattle.sysmem_counts.specs.declared.field.Field.{Field}
use Rattle.sysmem_counts.specs.declared.field.Field.TheVariants as field
use Rattle.sysmem_formats.specs.declared.offer.Offer.{Offer}
use Rattle.sysmem_formats.specs.Layout.{width_alignment_of, height_alignment_of}
use Rattle.sysmem_formats.specs.Layout.{row_divisor_of, row_bytes_of}
use Rattle.sysmem_image.specs.declared.bounds.ImageBounds.{ImageBounds}
use Rattle.sysmem_image.specs.Fields as bound
use Rattle.sysmem_image.specs.Fields.{Bound, Side, all_bounds, field_of, rule_of, wants_multiple}
use Rattle.sysmem_image.specs.Fields.{value, own_value, KeepsEach}
use Rattle.sysmem_counts.specs.Bounds.{most_number}

-- n is a common multiple, up to the limit, of the own number and those of a list
pub record IsCommon (first : ℕ) (f : ImageBounds → ℕ) (es : List ImageBounds) (n : ℕ) : Type 0 where
  pub some : 1 ≤ n
  pub small : n ≤ most_number
  pub own : first ∣ n
  pub each : All (λ e. f e ∣ n) es

-- there is such a common multiple
abbrev pub HasCommon : ℕ → (ImageBounds → ℕ) → List ImageBounds → Type 0
HasCommon first f es = (n : ℕ) × IsCommon first f es n

-- the numbers of a field have common multiples up to the limit, in both dimensions
abbrev pub MeetsIn : Bound → Offer → List ImageBounds → Type 0
MeetsIn f o es = (side : Side) → HasCommon (own_value o f side) (value f side) es

-- a width of the offer's and the list's alignments, not below what the list asks
-- for; it may be of any number of bits
pub record FitsWidth (o : Offer) (es : List ImageBounds) (w : ℕ) : Type 0 where
  pub some : 1 ≤ w
  pub own : width_alignment_of o ∣ w
  pub alignments : All (λ e. e.size_alignment.width ∣ w) es
  pub least : All (λ e. e.min_size.width ≤ w) es
  pub required : All (λ e. e.required_max_size.width ≤ w) es

-- the same of a height
pub record FitsHeight (o : Offer) (es : List ImageBounds) (h : ℕ) : Type 0 where
  pub some : 1 ≤ h
  pub own : height_alignment_of o ∣ h
  pub alignments : All (λ e. e.size_alignment.height ∣ h) es
  pub least : All (λ e. e.min_size.height ≤ h) es
  pub required : All (λ e. e.required_max_size.height ≤ h) es

-- a row of the offer's and the list's divisors for a width, not below what the list asks for
pub record FitsRow (o : Offer) (es : List ImageBounds) (w r : ℕ) : Type 0 where
  pub some : 1 ≤ r
  pub own : row_divisor_of o ∣ r
  pub divisors : All (λ e. e.bytes_per_row_divisor ∣ r) es
  pub least : All (λ e. e.min_bytes_per_row ≤ r) es
  pub row_bytes : row_bytes_of o w ≤ r

-- the alignments have common multiples up to the limit, as each line that reads them needs
abbrev pub AlignmentsMeet : Offer → List ImageBounds → Type 0
AlignmentsMeet o es = MeetsIn bound.SizeAlignment o es

-- the row divisors have a common multiple up to the limit, as each line that reads them needs
abbrev pub DivisorsMeet : Offer → List ImageBounds → Type 0
DivisorsMeet o es = MeetsIn bound.BytesPerRowDivisor o es

-- the greatest min_size of a list is above its least required_min_size in the dimension
abbrev pub MinAboveRequired : (ImageBounds → ℕ) → (ImageBounds → ℕ) → List ImageBounds → Type 0
MinAboveRequired min required es = (n : ℕ) → 1 ≤ n → n ≤ most_number → All (λ e. min e ≤ n) es
    → All (λ e. n ≤ required e) es → ⊥

-- the corner's width is above the least max_size
abbrev pub WidthAbove : Offer → List ImageBounds → Type 0
WidthAbove o es = (w : ℕ) → w ≤ most_number → FitsWidth o es w → All (λ e. w ≤ e.max_size.width) es
    → ⊥

-- the corner's height is above the least max_size
abbrev pub HeightAbove : Offer → List ImageBounds → Type 0
HeightAbove o es = (h : ℕ) → h ≤ most_number → FitsHeight o es h
    → All (λ e. h ≤ e.max_size.height) es → ⊥

-- the corner's width times height is above the least max_width_times_height
abbrev pub AreaAbove : Offer → List ImageBounds → Type 0
AreaAbove o es = (w h : ℕ) → w * h ≤ 18446744073709551615 → FitsWidth o es w → FitsHeight o es h
    → All (λ e. w * h ≤ e.max_width_times_height) es → ⊥

-- the corner's row is above the least max_bytes_per_row, where the corner may be wider than 32 bits
abbrev pub RowAbove : Offer → List ImageBounds → Type 0
RowAbove o es = (w r : ℕ) → r ≤ most_number → FitsWidth o es w → FitsRow o es w r
    → All (λ e. r ≤ e.max_bytes_per_row) es → ⊥

-- the line of the conflict table that the field heads is true of the
-- bounds of a list, in exact arithmetic
abbrev pub IsBoundsLine : Field → Offer → List ImageBounds → Type 0
IsBoundsLine field.SizeAlignment o es = ¬ MeetsIn bound.SizeAlignment o es
IsBoundsLine field.BytesPerRowDivisor o es = ¬ MeetsIn bound.BytesPerRowDivisor o es
IsBoundsLine field.StartOffsetDivisor o es = ¬ MeetsIn bound.StartOffsetDivisor o es
IsBoundsLine field.DisplayRectAlignment o es = ¬ MeetsIn bound.DisplayRectAlignment o es
IsBoundsLine field.RequiredMinSize o es =
    MinAboveRequired (λ e. e.min_size.width) (λ e. e.required_min_size.width) es
    ⊎ MinAboveRequired (λ e. e.min_size.height) (λ e. e.required_min_size.height) es
IsBoundsLine field.MaxSize o es = AlignmentsMeet o es × (WidthAbove o es ⊎ HeightAbove o es)
IsBoundsLine field.MaxWidthTimesHeight o es = AlignmentsMeet o es × AreaAbove o es
IsBoundsLine field.MaxBytesPerRow o es = AlignmentsMeet o es × DivisorsMeet o es × RowAbove o es
IsBoundsLine _ o es = ⊥

-- the lines about common multiples, in the table's order: one for each field that is merged so
abbrev pub multiple_lines : List Field
multiple_lines = map field_of (filter (λ f. wants_multiple (rule_of f)) all_bounds)

-- the lines of bounds, in the order of the conflict table
abbrev pub bounds_lines : List Field
bounds_lines = multiple_lines ++ field.RequiredMinSize ∷ field.MaxSize ∷ field.MaxWidthTimesHeight
    ∷ field.MaxBytesPerRow ∷ []

-- the lines of bounds that stand before that of the field in the conflict table
abbrev pub lines_before : Field → List Field
lines_before field.BytesPerRowDivisor = field.SizeAlignment ∷ []
lines_before field.StartOffsetDivisor = field.SizeAlignment ∷ field.BytesPerRowDivisor ∷ []
lines_before field.DisplayRectAlignment =
    field.SizeAlignment ∷ field.BytesPerRowDivisor ∷ field.StartOffsetDivisor ∷ []
lines_before field.RequiredMinSize = multiple_lines
lines_before field.MaxSize = field.RequiredMinSize ∷ multiple_lines
lines_before field.MaxWidthTimesHeight = field.MaxSize ∷ field.RequiredMinSize ∷ multiple_lines
lines_before field.MaxBytesPerRow =
    field.MaxWidthTimesHeight ∷ field.MaxSize ∷ field.RequiredMinSize ∷ multiple_lines
lines_before _ = []

-- none of these lines is true
abbrev pub NoLines : List Field → Offer → List ImageBounds → Type 0
NoLines [] o es = Unit {0}
NoLines (f ∷ fs) o es = (¬ IsBoundsLine f o es) × NoLines fs o es

-- the first line of bounds that is true, in the order of the conflict table
pub record IsFirstLine (f : Field) (o : Offer) (es : List ImageBounds) : Type 0 where
  pub line : IsBoundsLine f o es
  pub before : NoLines (lines_before f) o es

-- a line about a common multiple: once true of a list, it is true of each longer one
abbrev pub IsSteady : Field → Type 0
IsSteady field.SizeAlignment = Unit {0}
IsSteady field.BytesPerRowDivisor = Unit {0}
IsSteady field.StartOffsetDivisor = Unit {0}
IsSteady field.DisplayRectAlignment = Unit {0}
IsSteady _ = ⊥

-- the fields that the corner reads
abbrev pub corner_reads : List Bound
corner_reads = bound.MinSize ∷ bound.SizeAlignment ∷ bound.MinBytesPerRow ∷ bound.BytesPerRowDivisor
    ∷ bound.RequiredMaxSize ∷ []

-- the fields that a line reads; that an entry's rows end at a pixel is read as its row divisor
abbrev pub reads : Field → List Bound
reads field.SizeAlignment = bound.SizeAlignment ∷ []
reads field.BytesPerRowDivisor = bound.BytesPerRowDivisor ∷ []
reads field.StartOffsetDivisor = bound.StartOffsetDivisor ∷ []
reads field.DisplayRectAlignment = bound.DisplayRectAlignment ∷ []
reads field.RequiredMinSize = bound.MinSize ∷ bound.RequiredMinSize ∷ []
reads field.MaxSize =
    bound.MinSize ∷ bound.MaxSize ∷ bound.SizeAlignment ∷ bound.RequiredMaxSize ∷ []
reads field.MaxWidthTimesHeight =
    bound.MinSize ∷ bound.SizeAlignment ∷ bound.RequiredMaxSize ∷ bound.MaxWidthTimesHeight ∷ []
reads field.MaxBytesPerRow = bound.MaxBytesPerRow ∷ corner_reads
reads _ = []

-- the bounds a keep to b in the fields that the corner reads
abbrev pub KeepsCorner : ImageBounds → ImageBounds → Type 0
KeepsCorner a b = KeepsEach corner_reads a b

-- the bounds a keep to b in the fields that the line reads
abbrev pub KeepsLine : Field → ImageBounds → ImageBounds → Type 0
KeepsLine f a b = KeepsEach (reads f) a b
