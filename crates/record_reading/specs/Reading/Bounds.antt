-- The bounds that an entry puts on images.
use Rattle.std.specs.Prelude.{ℕ, ◌≤◌, ◌-◌, ◌^◌, ◌&&◌, ◌||◌, max, min, List, [], ◌∷◌, Bool, false}
use Rattle.std.specs.Prelude.{Result, Ok, Err, codes, bytes_eq, nat_le, if◌then◌else◌}
use Rattle.std.proofs.Common.{arith}
use Rattle.std.specs.List.{list_all}
use Rattle.serde_json.specs.Data.{Data, object}
use Rattle.serde_json.specs.Find.{get}
use Rattle.sysmem_counts.specs.declared.field.Field.{Field}
use Rattle.sysmem_counts.specs.declared.field.Field.TheVariants as field
use Rattle.sysmem_image.specs.declared.entry.EntryBounds.{EntryBounds}
use Rattle.sysmem_image.specs.declared.size.Size.{Size}
use Rattle.sysmem_image.specs.Fields.{Bound, Range, BytesPerRowDivisor, AnyValue, SomeValue}
use Rattle.sysmem_image.specs.Fields.{MultipleValue, FromOne, all_bounds, field_of, is_size, absent}
use Rattle.sysmem_image.specs.Fields.{range_of, bounds_with, values_of, value_among}
use Rattle.sysmem_image.specs.Size.{most_multiple, square, some_sides}
use Rattle.sysmem_counts.specs.Bounds.{most_number}
use Rattle.record_reading.specs.declared.fault.Code.TheVariants as code
use Rattle.record_reading.specs.declared.fault.Fault.{Fault}
use Rattle.record_reading.specs.Faults.{wrong}
use Rattle.record_reading.specs.Reading.Fields.{◌>>=◌, passing, keys_of, read_or}
use Rattle.record_reading.specs.Reading.Fields.{optional, number_up_to, flag_or}

-- 0 to the greatest
abbrev pub any_number : Field → Data → Result ℕ Fault
any_number field d = number_up_to field most_number d

-- 0 to the greatest, and 0 is read as 1
abbrev pub some_number : Field → Data → Result ℕ Fault
some_number field d = do
  n ← any_number field d
  Ok (max n 1)

-- 1 to 65,536
abbrev pub is_multiple : ℕ → Bool
is_multiple n = nat_le 1 n && nat_le n most_multiple

-- 1 to 65,536
abbrev pub multiple : Field → Data → Result ℕ Fault
multiple field d = do
  n ← number_up_to field (2 ^ 64 - 1) d
  passing (wrong code.BadMultiple field) is_multiple n

-- 1 to the greatest number of 64 bits
abbrev pub large_number : Field → Data → Result ℕ Fault
large_number field d = do
  n ← number_up_to field (2 ^ 64 - 1) d
  passing (wrong code.WrongKind field) (λ n. nat_le 1 n) n

-- the keys of a size
abbrev pub is_side : List ℕ → Bool
is_side key = bytes_eq key (codes "width") || bytes_eq key (codes "height")

-- an object that has no other keys than width and height
abbrev pub sides_of : Field → Data → Result Data Fault
sides_of field (object ms) =
    if list_all is_side (keys_of ms) then Ok (object ms) else Err (wrong code.UnknownField field)
sides_of field _ = Err (wrong code.WrongKind field)

-- one side, which must be there
abbrev pub side : Field → ℕ → List ℕ → Data → Result ℕ Fault
side field greatest name d =
    read_or (Err (wrong code.WrongKind field)) (number_up_to field greatest) (get name d)

-- a width and a height, each from 0 to the greatest
abbrev pub size_to : Field → ℕ → Data → Result Size Fault
size_to field greatest d = do
  _ ← sides_of field d
  width ← side field greatest (codes "width") d
  height ← side field greatest (codes "height") d
  Ok (record { width = width; height = height })

-- both 0 to the greatest
abbrev pub any_size : Field → Data → Result Size Fault
any_size field d = size_to field most_number d

-- both 0 to the greatest, and 0 is read as 1
abbrev pub some_size : Field → Data → Result Size Fault
some_size field d = do
  size ← any_size field d
  Ok (some_sides size)

-- both 1 to 65,536
abbrev pub multiple_size : Field → Data → Result Size Fault
multiple_size field d = do
  size ← size_to field (2 ^ 64 - 1) d
  passing (wrong code.BadMultiple field) (λ size. is_multiple size.width && is_multiple size.height)
      size

-- a number that is read so, or its absent value
abbrev pub bound_or : (Field → Data → Result ℕ Fault) → Field → ℕ → Data → Result ℕ Fault
bound_or read field absent d = optional field absent (read field) d

-- a size that is read so, or one with the absent value on both sides
abbrev pub size_or : (Field → Data → Result Size Fault) → Field → ℕ → Data → Result Size Fault
size_or read field absent d = optional field (square absent) (read field) d

-- a number, read by its range
abbrev pub number_in : Range → Field → Data → Result ℕ Fault
number_in AnyValue = any_number
number_in SomeValue = some_number
number_in MultipleValue = multiple
number_in FromOne = large_number

-- a size, read by its range
abbrev pub size_in : Range → Field → Data → Result Size Fault
size_in SomeValue = some_size
size_in MultipleValue = multiple_size
size_in _ = any_size

-- a field of one number, which it has in both dimensions
abbrev pub number_stated : Bound → Data → Result Size Fault
number_stated f d = do
  n ← bound_or (number_in (range_of f)) (field_of f) (absent f) d
  Ok (square n)

-- what an entry's bounds state of a field: its value, or its absent one
abbrev pub stated_in : Bound → Data → Result Size Fault
stated_in f d =
    if is_size f then size_or (size_in (range_of f)) (field_of f) (absent f) d
    else number_stated f d

-- the same of each field of a list, in its order
abbrev pub stated_each : List Bound → Data → Result (List Size) Fault
stated_each [] d = Ok []
stated_each (f ∷ fs) d = do
  value ← stated_in f d
  values ← stated_each fs d
  Ok (value ∷ values)

-- what an entry's bounds state: the values of all fields, and whether rows end at a pixel
abbrev pub stated_bounds : Data → Result (List Size × Bool) Fault
stated_bounds d = do
  values ← stated_each all_bounds d
  at_pixel_boundary ← flag_or field.RequireBytesPerRowAtPixelBoundary false d
  Ok (values, at_pixel_boundary)

-- a row divisor is 1 to 65,536, as it is read
abbrev pub divisor_read : ℕ → ℕ
divisor_read n = min (max n 1) most_multiple

pub some_divisor : (n : ℕ) → 1 ≤ divisor_read n
some_divisor n = omega arith

pub small_divisor_of : (n : ℕ) → divisor_read n ≤ most_multiple
small_divisor_of n = omega arith

-- the bounds of these values, with a row divisor as it is read
abbrev pub bounds_by : List Size × Bool → EntryBounds
bounds_by (values, at_pixel_boundary) = record {
  asked = record (bounds_with (value_among values)) {
    bytes_per_row_divisor = divisor_read (value_among values BytesPerRowDivisor).width;
    row_divisor_some = some_divisor (value_among values BytesPerRowDivisor).width;
  };
  at_pixel_boundary = at_pixel_boundary;
  small_divisor = small_divisor_of (value_among values BytesPerRowDivisor).width;
}

-- what these bounds say
abbrev pub stated_by : EntryBounds → List Size × Bool
stated_by b = (values_of b.asked, b.at_pixel_boundary)

-- the bounds that an entry states
abbrev pub bounds_of : Data → Result EntryBounds Fault
bounds_of d = do
  stated ← stated_bounds d
  Ok (bounds_by stated)
