-- The table of image bounds: its fields, and in a column each what it says of them.
use Rattle.std.specs.Prelude.{ℕ, ◌≤◌, ◌-◌, max, Bool, true, false, List, []}
use Rattle.std.specs.Prelude.{◌∷◌, get_or, map, nat_lt}
use Rattle.std.specs.Int.{◌∣◌}
use Rattle.std.specs.List.{filter}
use Rattle.sysmem_counts.specs.declared.field.Field.{Field}
use Rattle.sysmem_counts.specs.declared.field.Field.TheVariants as field
use Rattle.sysmem_formats.specs.declared.offer.Offer.{Offer}
use Rattle.sysmem_formats.specs.Layout.{width_alignment_of, height_alignment_of, row_divisor_of}
use Rattle.sysmem_image.specs.declared.bounds.ImageBounds.{ImageBounds}
use Rattle.sysmem_image.specs.declared.size.Size.{Size}
use Rattle.sysmem_image.specs.Entries.{some_max}
use Rattle.sysmem_image.specs.Size.{square, some_sides}
use Rattle.sysmem_counts.specs.Bounds.{most_number}

-- a field of image bounds
pub data Bound : Type 0 where
  MinSize : Bound
  MaxSize : Bound
  SizeAlignment : Bound
  MinBytesPerRow : Bound
  MaxBytesPerRow : Bound
  BytesPerRowDivisor : Bound
  StartOffsetDivisor : Bound
  DisplayRectAlignment : Bound
  RequiredMinSize : Bound
  RequiredMaxSize : Bound
  MaxWidthTimesHeight : Bound

-- a dimension of a size; a field of one number has it in both
pub data Side : Type 0 where
  Width : Side
  Height : Side

-- what two values are merged to
pub data Rule : Type 0 where
  Greatest : Rule
  Least : Rule
  Multiple : Rule

-- which values are read: any of its type; some, where 0 is read as 1; a
-- multiple, 1 to 65,536; or all from 1
pub data Range : Type 0 where
  AnyValue : Range
  SomeValue : Range
  MultipleValue : Range
  FromOne : Range

-- the fields in the table's order
abbrev pub all_bounds : List Bound
all_bounds = MinSize ∷ MaxSize ∷ SizeAlignment ∷ MinBytesPerRow ∷ MaxBytesPerRow
    ∷ BytesPerRowDivisor ∷ StartOffsetDivisor ∷ DisplayRectAlignment ∷ RequiredMinSize
    ∷ RequiredMaxSize ∷ MaxWidthTimesHeight ∷ []

-- its number in the table
abbrev pub number_of : Bound → ℕ
number_of MinSize = 21
number_of MaxSize = 22
number_of SizeAlignment = 23
number_of MinBytesPerRow = 24
number_of MaxBytesPerRow = 25
number_of BytesPerRowDivisor = 26
number_of StartOffsetDivisor = 27
number_of DisplayRectAlignment = 28
number_of RequiredMinSize = 29
number_of RequiredMaxSize = 30
number_of MaxWidthTimesHeight = 31

-- its name
abbrev pub field_of : Bound → Field
field_of MinSize = field.MinSize
field_of MaxSize = field.MaxSize
field_of SizeAlignment = field.SizeAlignment
field_of MinBytesPerRow = field.MinBytesPerRow
field_of MaxBytesPerRow = field.MaxBytesPerRow
field_of BytesPerRowDivisor = field.BytesPerRowDivisor
field_of StartOffsetDivisor = field.StartOffsetDivisor
field_of DisplayRectAlignment = field.DisplayRectAlignment
field_of RequiredMinSize = field.RequiredMinSize
field_of RequiredMaxSize = field.RequiredMaxSize
field_of MaxWidthTimesHeight = field.MaxWidthTimesHeight

-- its value in a dimension
abbrev pub value : Bound → Side → ImageBounds → ℕ
value MinSize Width b = b.min_size.width
value MinSize Height b = b.min_size.height
value MaxSize Width b = b.max_size.width
value MaxSize Height b = b.max_size.height
value SizeAlignment Width b = b.size_alignment.width
value SizeAlignment Height b = b.size_alignment.height
value MinBytesPerRow _ b = b.min_bytes_per_row
value MaxBytesPerRow _ b = b.max_bytes_per_row
value BytesPerRowDivisor _ b = b.bytes_per_row_divisor
value StartOffsetDivisor _ b = b.start_offset_divisor
value DisplayRectAlignment Width b = b.display_rect_alignment.width
value DisplayRectAlignment Height b = b.display_rect_alignment.height
value RequiredMinSize Width b = b.required_min_size.width
value RequiredMinSize Height b = b.required_min_size.height
value RequiredMaxSize Width b = b.required_max_size.width
value RequiredMaxSize Height b = b.required_max_size.height
value MaxWidthTimesHeight _ b = b.max_width_times_height

-- what its values are merged to
abbrev pub rule_of : Bound → Rule
rule_of MinSize = Greatest
rule_of MaxSize = Least
rule_of SizeAlignment = Multiple
rule_of MinBytesPerRow = Greatest
rule_of MaxBytesPerRow = Least
rule_of BytesPerRowDivisor = Multiple
rule_of StartOffsetDivisor = Multiple
rule_of DisplayRectAlignment = Multiple
rule_of RequiredMinSize = Least
rule_of RequiredMaxSize = Greatest
rule_of MaxWidthTimesHeight = Least

-- a common multiple, which there may not be up to the limit
abbrev pub wants_multiple : Rule → Bool
wants_multiple Multiple = true
wants_multiple _ = false

-- a size, and not one number
abbrev pub is_size : Bound → Bool
is_size MinSize = true
is_size MaxSize = true
is_size SizeAlignment = true
is_size DisplayRectAlignment = true
is_size RequiredMinSize = true
is_size RequiredMaxSize = true
is_size _ = false

-- its greatest value
abbrev pub most : Bound → ℕ
most MaxWidthTimesHeight = 18446744073709551615
most _ = most_number

-- its value where it isn't given
abbrev pub absent : Bound → ℕ
absent MinSize = 1
absent MaxSize = most_number
absent SizeAlignment = 1
absent MinBytesPerRow = 1
absent MaxBytesPerRow = most_number
absent BytesPerRowDivisor = 1
absent StartOffsetDivisor = 1
absent DisplayRectAlignment = 1
absent RequiredMinSize = most_number
absent RequiredMaxSize = 0
absent MaxWidthTimesHeight = 18446744073709551615

-- which of its values are read
abbrev pub range_of : Bound → Range
range_of MinSize = SomeValue
range_of MaxSize = AnyValue
range_of SizeAlignment = MultipleValue
range_of MinBytesPerRow = SomeValue
range_of MaxBytesPerRow = AnyValue
range_of BytesPerRowDivisor = MultipleValue
range_of StartOffsetDivisor = MultipleValue
range_of DisplayRectAlignment = MultipleValue
range_of RequiredMinSize = SomeValue
range_of RequiredMaxSize = AnyValue
range_of MaxWidthTimesHeight = FromOne

-- an offer's own value, where no entry gives any
abbrev pub own_value : Offer → Bound → Side → ℕ
own_value o SizeAlignment Width = width_alignment_of o
own_value o SizeAlignment Height = height_alignment_of o
own_value o BytesPerRowDivisor _ = row_divisor_of o
own_value o f _ = absent f

-- bounds of which each field has this value; those that must be 1 or more are
abbrev pub bounds_with : (Bound → Size) → ImageBounds
bounds_with v = record {
  min_size = some_sides (v MinSize);
  min_width_some = some_max (v MinSize).width;
  min_height_some = some_max (v MinSize).height;
  max_size = v MaxSize;
  size_alignment = some_sides (v SizeAlignment);
  width_alignment_some = some_max (v SizeAlignment).width;
  height_alignment_some = some_max (v SizeAlignment).height;
  min_bytes_per_row = max (v MinBytesPerRow).width 1;
  min_row_some = some_max (v MinBytesPerRow).width;
  max_bytes_per_row = (v MaxBytesPerRow).width;
  bytes_per_row_divisor = max (v BytesPerRowDivisor).width 1;
  row_divisor_some = some_max (v BytesPerRowDivisor).width;
  start_offset_divisor = max (v StartOffsetDivisor).width 1;
  start_divisor_some = some_max (v StartOffsetDivisor).width;
  display_rect_alignment = some_sides (v DisplayRectAlignment);
  display_width_some = some_max (v DisplayRectAlignment).width;
  display_height_some = some_max (v DisplayRectAlignment).height;
  required_min_size = v RequiredMinSize;
  required_max_size = v RequiredMaxSize;
  max_width_times_height = (v MaxWidthTimesHeight).width;
}

-- its values in both dimensions
abbrev pub sides_of : ImageBounds → Bound → Size
sides_of b f = record { width = value f Width b; height = value f Height b }

-- the values of all fields, in the table's order
abbrev pub values_of : ImageBounds → List Size
values_of b = map (sides_of b) all_bounds

-- a field's value among those of all fields
abbrev pub value_among : List Size → Bound → Size
value_among values f = get_or values (number_of f - number_of MinSize) (square (absent f))

-- the fields that stand before it in the table
abbrev pub fields_before : Bound → List Bound
fields_before f = filter (λ g. nat_lt (number_of g) (number_of f)) all_bounds

-- n keeps to m
abbrev pub Keeps : Rule → ℕ → ℕ → Type 0
Keeps Greatest m n = m ≤ n
Keeps Least m n = n ≤ m
Keeps Multiple m n = m ∣ n

-- the bounds a keep to the bounds b in a field: in both dimensions
abbrev pub KeepsIn : Bound → ImageBounds → ImageBounds → Type 0
KeepsIn f a b = (side : Side) → Keeps (rule_of f) (value f side b) (value f side a)

-- the same in each field of a list
abbrev pub KeepsEach : List Bound → ImageBounds → ImageBounds → Type 0
KeepsEach [] a b = Unit {0}
KeepsEach (f ∷ fs) a b = KeepsIn f a b × KeepsEach fs a b
