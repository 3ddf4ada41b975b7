-- The bounds that an entry's record states are the entry's.
use Rattle.std.proofs.Common.{◌≡◌, ℕ, ◌≤◌, ◌-◌, ◌^◌, ◌&&◌, true, List, [], ◌∷◌, Result, Ok, refl, ap, ◌∙◌, arith, rules, tests}
use Rattle.std.specs.Prelude.{map, nat_le}
use Rattle.serde_json.specs.Data.{Data}
use Rattle.sysmem_counts.specs.declared.field.Field.{Field}
use Rattle.sysmem_counts.specs.declared.field.Field.TheVariants as field
use Rattle.sysmem_counts.specs.Bounds.{most_number}
use Rattle.sysmem_image.specs.declared.entry.Entry.{Entry}
use Rattle.sysmem_image.specs.declared.size.Size.{Size}
use Rattle.sysmem_image.specs.Bounds.{IsInRange}
use Rattle.sysmem_image.specs.Fields.{Bound, MinSize, MaxSize, SizeAlignment, MinBytesPerRow, MaxBytesPerRow, BytesPerRowDivisor, StartOffsetDivisor, DisplayRectAlignment, RequiredMinSize, RequiredMaxSize, MaxWidthTimesHeight, Width, Height, all_bounds, sides_of, values_of}
use Rattle.sysmem_image.specs.Size.{most_multiple, square}
use Rattle.sysmem_image.proofs.CallerLemmas.{max_one, sides_same}
use Rattle.record_reading.specs.declared.fault.Fault.{Fault}
use Rattle.negotiation_inputs.specs.Participant.{IsEntry}
use Rattle.record_reading.specs.Reading.Bounds.{some_number, is_multiple, multiple, large_number, size_to, any_size, some_size, multiple_size, stated_in, stated_each, stated_bounds, stated_by, bounds_of}
use Rattle.record_reading.specs.Reading.Fields.{◌>>=◌, number_up_to}
use Rattle.sysmem_sanitise.proofs.CallerLemmas.{bounds_by_numbers}
use Rattle.record_laws.specs.Ranges.{most_large}
use Rattle.record_laws.specs.Records.{natural, size_record, entry_record}
use Rattle.record_laws.proofs.Each.{passes, next, up_to}

pub number_stated : (at : Field) (greatest n : ℕ) → n ≤ greatest → number_up_to at greatest (natural n) ≡ Ok n
number_stated at greatest n small = passes _ (λ n. nat_le n greatest) n (up_to n greatest small)

is_one : (n : ℕ) → 1 ≤ n → n ≤ most_multiple → is_multiple n ≡ true
is_one n some small = search (rules, tests)

pub some_stated : (at : Field) (n : ℕ) → 1 ≤ n → n ≤ most_number → some_number at (natural n) ≡ Ok n
some_stated at n some small = next (number_up_to at most_number (natural n)) n _ (Ok n) (number_stated at most_number n small) (ap Ok (max_one n some))

pub multiple_stated : (at : Field) (n : ℕ) → 1 ≤ n → n ≤ most_multiple → multiple at (natural n) ≡ Ok n
multiple_stated at n some small =
    next (number_up_to at (2 ^ 64 - 1) (natural n)) n _ (Ok n) (number_stated at (2 ^ 64 - 1) n (omega arith)) (passes _ is_multiple n (is_one n some small))

pub large_stated : (at : Field) (n : ℕ) → 1 ≤ n → n ≤ most_large → large_number at (natural n) ≡ Ok n
large_stated at n some small =
    next (number_up_to at (2 ^ 64 - 1) (natural n)) n _ (Ok n) (number_stated at (2 ^ 64 - 1) n small) (passes _ (λ n. nat_le 1 n) n (up_to 1 n some))

pub size_stated : (at : Field) (greatest : ℕ) (s : Size) → s.width ≤ greatest → s.height ≤ greatest → size_to at greatest (size_record s) ≡ Ok s
size_stated at greatest s wide high =
    next (number_up_to at greatest (natural s.width)) s.width _ (Ok s) (number_stated at greatest s.width wide)
    (next (number_up_to at greatest (natural s.height)) s.height _ (Ok s) (number_stated at greatest s.height high) refl)

pub some_size_stated : (at : Field) (s : Size) → 1 ≤ s.width → 1 ≤ s.height → s.width ≤ most_number → s.height ≤ most_number → some_size at (size_record s) ≡ Ok s
some_size_stated at s some_width some_height wide high =
    next (any_size at (size_record s)) s _ (Ok s) (size_stated at most_number s wide high) (ap Ok (sides_same s some_width some_height))

both : (a b : ℕ) → is_multiple a ≡ true → is_multiple b ≡ true → (is_multiple a && is_multiple b) ≡ true
both a b h k = ap (λ t. t && is_multiple b) h ∙ k

pub multiple_size_stated : (at : Field) (s : Size) → 1 ≤ s.width → 1 ≤ s.height → s.width ≤ most_multiple → s.height ≤ most_multiple → multiple_size at (size_record s) ≡ Ok s
multiple_size_stated at s some_width some_height wide high =
    next (size_to at (2 ^ 64 - 1) (size_record s)) s _ (Ok s) (size_stated at (2 ^ 64 - 1) s (omega arith) (omega arith))
    (passes _ (λ size. is_multiple size.width && is_multiple size.height) s (both s.width s.height (is_one s.width some_width wide) (is_one s.height some_height high)))

-- a list of fields of which each is stated
pub each_field : (fs : List Bound) (d : Data) (v : Bound → Size) → ((f : Bound) → stated_in f d ≡ Ok (v f)) → stated_each fs d ≡ Ok (map v fs)
each_field [] d v states = refl
each_field (f ∷ fs) d v states =
    next (stated_in f d) (v f) _ (Ok (map v (f ∷ fs))) (states f) (next (stated_each fs d) (map v fs) _ (Ok (map v (f ∷ fs))) (each_field fs d v states) refl)

pub as_number : (n : ℕ) (r : Result ℕ Fault) → r ≡ Ok n → (r >>= λ n. Ok (square n)) ≡ Ok (square n)
as_number n r is = next r n (λ n. Ok (square n)) (Ok (square n)) is refl

field_stated : (e : Entry) → IsEntry e → IsInRange e.bounds.asked → (f : Bound) → stated_in f (entry_record e) ≡ Ok (sides_of e.bounds.asked f)
field_stated e is small MinSize = let b = e.bounds.asked in some_size_stated field.MinSize b.min_size b.min_width_some b.min_height_some (small MinSize Width) (small MinSize Height)
field_stated e is small MaxSize = let b = e.bounds.asked in size_stated field.MaxSize most_number b.max_size (small MaxSize Width) (small MaxSize Height)
field_stated e is small SizeAlignment = let b = e.bounds.asked in multiple_size_stated field.SizeAlignment b.size_alignment b.width_alignment_some b.height_alignment_some is.size_alignment.0 is.size_alignment.1
field_stated e is small MinBytesPerRow = let b = e.bounds.asked in as_number b.min_bytes_per_row _ (some_stated field.MinBytesPerRow b.min_bytes_per_row b.min_row_some (small MinBytesPerRow Width))
field_stated e is small MaxBytesPerRow = let b = e.bounds.asked in as_number b.max_bytes_per_row _ (number_stated field.MaxBytesPerRow most_number b.max_bytes_per_row (small MaxBytesPerRow Width))
field_stated e is small BytesPerRowDivisor = let b = e.bounds.asked in as_number b.bytes_per_row_divisor _ (multiple_stated field.BytesPerRowDivisor b.bytes_per_row_divisor b.row_divisor_some e.bounds.small_divisor)
field_stated e is small StartOffsetDivisor = let b = e.bounds.asked in as_number b.start_offset_divisor _ (multiple_stated field.StartOffsetDivisor b.start_offset_divisor b.start_divisor_some is.start_offset_divisor)
field_stated e is small DisplayRectAlignment =
    let b = e.bounds.asked in
    multiple_size_stated field.DisplayRectAlignment b.display_rect_alignment b.display_width_some b.display_height_some is.display_rect_alignment.0 is.display_rect_alignment.1
field_stated e is small RequiredMinSize =
    let b = e.bounds.asked in
    some_size_stated field.RequiredMinSize b.required_min_size is.required_min_width is.required_min_height (small RequiredMinSize Width) (small RequiredMinSize Height)
field_stated e is small RequiredMaxSize = let b = e.bounds.asked in size_stated field.RequiredMaxSize most_number b.required_max_size (small RequiredMaxSize Width) (small RequiredMaxSize Height)
field_stated e is small MaxWidthTimesHeight = let b = e.bounds.asked in as_number b.max_width_times_height _ (large_stated field.MaxWidthTimesHeight b.max_width_times_height is.max_width_times_height (small MaxWidthTimesHeight Width))

-- the bounds of an entry's record
pub bounds_stated : (e : Entry) → IsEntry e → IsInRange e.bounds.asked → bounds_of (entry_record e) ≡ Ok e.bounds
bounds_stated e is small =
    let all : stated_each all_bounds (entry_record e) ≡ Ok (values_of e.bounds.asked) = each_field all_bounds (entry_record e) (sides_of e.bounds.asked) (field_stated e is small) in
    let whole : stated_bounds (entry_record e) ≡ Ok (stated_by e.bounds) = next (stated_each all_bounds (entry_record e)) (values_of e.bounds.asked) _ (Ok (stated_by e.bounds)) all refl in
    next (stated_bounds (entry_record e)) (stated_by e.bounds) _ (Ok e.bounds) whole (ap Ok (bounds_by_numbers e.bounds))
