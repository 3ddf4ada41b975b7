-- The bounds of entries after a change.
use Rattle.std.specs.Prelude.{ℕ, ◌&&◌, ◌||◌, ◌==◌, max, List, map, find, Bool, nat_le, nat_lt}
use Rattle.std.specs.Prelude.{Option, Some, None, is_some, option_and_then, option_map}
use Rattle.std.specs.Prelude.{if◌then◌else◌}
use Rattle.std.specs.Option.{option_map_or}
use Rattle.sysmem_counts.specs.Bounds.{most_number}
use Rattle.sysmem_counts.specs.declared.field.Field.{Field}
use Rattle.sysmem_image.specs.declared.entry.Entry.{Entry}
use Rattle.sysmem_image.specs.declared.entry.EntryBounds.{EntryBounds}
use Rattle.sysmem_image.specs.declared.size.Size.{Size}
use Rattle.sysmem_image.specs.Fields.{Bound, Range, AnyValue, SomeValue, MultipleValue, FromOne}
use Rattle.sysmem_image.specs.Fields.{all_bounds, field_of, is_size, absent, range_of, sides_of}
use Rattle.sysmem_image.specs.Size.{square}
use Rattle.record_reading.specs.Reading.Bounds.{bounds_by, is_multiple}
use Rattle.record_reading.specs.Reading.Fields.{same_field}
use Rattle.constraint_edits.specs.declared.amount.Amount.{Amount}
use Rattle.constraint_edits.specs.declared.amount.Amount.TheVariants.{Number, Sides}

-- the bound of a field
abbrev pub bound_of : Field → Option Bound
bound_of f = find (λ b. same_field f (field_of b)) all_bounds

-- a number as a bound of this range is read, if it may be one
abbrev pub number_read : Range → ℕ → Option ℕ
number_read AnyValue n = if nat_le n most_number then Some n else None
number_read SomeValue n = if nat_le n most_number then Some (max n 1) else None
number_read MultipleValue n = if is_multiple n then Some n else None
number_read FromOne n = if nat_le 1 n then Some n else None

-- a width and a height that are read so
abbrev pub sides_read : Range → ℕ → ℕ → Option Size
sides_read range width height =
    option_and_then (λ w. option_map (λ h. record { width = w; height = h })
    (number_read range height)) (number_read range width)

-- what a size, or a number, of this range is that has this amount, or this absent value
abbrev pub value_stated : Bool → Range → ℕ → Option Amount → Option Size
value_stated sized range absent None = Some (square absent)
value_stated sized range absent (Some (Number n)) =
    if sized then None else option_map square (number_read range n)
value_stated sized range absent (Some (Sides width height)) =
    if sized then sides_read range width height else None

-- the value of a field that has this amount, or is left out
abbrev pub value_given : Field → Option Amount → Option Size
value_given f amount = option_and_then
    (λ b. value_stated (is_size b) (range_of b) (absent b) amount) (bound_of f)

-- the value of a field in an entry's bounds
abbrev pub value_at : Field → EntryBounds → Size
value_at f bounds = option_map_or (sides_of bounds.asked) (bound_of f) (square 0)

-- its value where it isn't stated
abbrev pub absent_at : Field → Size
absent_at f = option_map_or (λ b. square (absent b)) (bound_of f) (square 0)

-- the values of all fields, this one in the place of the field's
abbrev pub values_with : Field → Size → EntryBounds → List Size
values_with f value bounds =
    map (λ b. if same_field f (field_of b) then value else sides_of bounds.asked b) all_bounds

-- an entry's bounds with this value in the place of the field's
abbrev pub with_value : Field → Size → EntryBounds → EntryBounds
with_value f value bounds = bounds_by (values_with f value bounds, bounds.at_pixel_boundary)

-- a number is one of two others, or lies between them
abbrev pub lies_between : ℕ → ℕ → ℕ → Bool
lies_between a b n = nat_le a n && nat_le n b || nat_le b n && nat_le n a

-- so does each side of a size
abbrev pub is_between : Size → Size → Size → Bool
is_between a b size =
    lies_between a.width b.width size.width && lies_between a.height b.height size.height

-- an entry with this value of a field
abbrev pub value_put : Field → Size → Entry → Entry
value_put f value entry = record entry { bounds = with_value f value entry.bounds }

-- an entry with another value of a field; as it is where its value asks for no more than that one:
-- it is that or the absent one, or lies between them
abbrev pub value_changed : Field → Size → Entry → Entry
value_changed f value entry =
    if is_between value (absent_at f) (value_at f entry.bounds) then entry
    else value_put f value entry

-- the entries after a bound of theirs is left out, or has this amount
abbrev pub bound_edited : Field → Option Amount → List Entry → Option (List Entry)
bound_edited f amount entries =
    option_map (λ value. map (value_changed f value) entries) (value_given f amount)

-- the entries after each states this amount of a bound
abbrev pub bound_stated : Field → Amount → List Entry → Option (List Entry)
bound_stated f amount entries =
    option_map (λ value. map (value_put f value) entries) (value_given f (Some amount))

-- an entry with another value of a field, if its own is this one
abbrev pub value_replaced : Field → Size → Size → Entry → Entry
value_replaced f was value entry =
    if is_between was was (value_at f entry.bounds) then value_put f value entry else entry

-- the entries after a bound that has the first amount is left out, or has another one
abbrev pub bound_replaced : Field → Amount → Option Amount → List Entry → Option (List Entry)
bound_replaced f was amount entries =
    option_and_then (λ old. option_map (λ value. map (value_replaced f old value) entries)
    (value_given f amount)) (value_given f (Some was))

-- a size is above another in a dimension at least
abbrev pub is_above : Size → Size → Bool
is_above a b = nat_lt b.width a.width || nat_lt b.height a.height

-- an entry's bounds with the values of two fields exchanged
abbrev pub values_exchanged : Field → Field → EntryBounds → EntryBounds
values_exchanged f g bounds =
    with_value g (value_at f bounds) (with_value f (value_at g bounds) bounds)

-- an entry with the values of two fields exchanged, if the first is above the second
abbrev pub entry_exchanged : Field → Field → Entry → Entry
entry_exchanged f g entry =
    if is_above (value_at f entry.bounds) (value_at g entry.bounds)
    then record entry { bounds = values_exchanged f g entry.bounds } else entry

-- the entries after the exchange of two bounds of theirs
abbrev pub bounds_exchanged : Field → Field → List Entry → Option (List Entry)
bounds_exchanged f g entries =
    if is_some (bound_of f) && is_some (bound_of g)
    then Some (map (entry_exchanged f g) entries) else None
