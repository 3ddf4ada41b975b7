-- What is written of an image entry is read as the entry.
use Rattle.std.proofs.Common.{◌≡◌, ℕ, ◌==◌, ◌&&◌, true, false, List, [], ◌∷◌, ◌++◌, length, Option, Some, None, option_map, Result, Ok, refl, ap, ◌∙◌}
use Rattle.std.specs.Prelude.{nat_lt, is_some, if◌then◌else◌}
use Rattle.serde_json.specs.Data.{Data}
use Rattle.sysmem_counts.specs.declared.field.Field.{Field}
use Rattle.sysmem_counts.specs.declared.field.Field.TheVariants as field
use Rattle.sysmem_counts.specs.Bounds.{most_number}
use Rattle.sysmem_counts.specs.Field.{field_name}
use Rattle.sysmem_formats.specs.declared.modifier.Modifier.{Modifier}
use Rattle.sysmem_formats.specs.declared.modifier.Modifier.TheVariants.{Linear, IntelXTiled, IntelYTiled}
use Rattle.sysmem_formats.specs.declared.pixel_format.PixelFormat.{PixelFormat}
use Rattle.sysmem_formats.specs.Names.{format_name, modifier_name}
use Rattle.sysmem_image.specs.declared.colours.ColourSet.{ColourSet}
use Rattle.sysmem_image.specs.declared.entry.Entry.{Entry}
use Rattle.sysmem_image.specs.declared.size.Size.{Size}
use Rattle.sysmem_image.specs.Bounds.{IsInRange}
use Rattle.sysmem_image.specs.Colours.{no_colours}
use Rattle.sysmem_image.specs.Fields.{Bound, MinSize, MaxSize, SizeAlignment, MinBytesPerRow, MaxBytesPerRow, BytesPerRowDivisor, StartOffsetDivisor, DisplayRectAlignment, RequiredMinSize, RequiredMaxSize, MaxWidthTimesHeight, Width, Height, all_bounds, sides_of, values_of}
use Rattle.sysmem_image.specs.Size.{square}
use Rattle.record_reading.specs.declared.fault.Code.TheVariants as code
use Rattle.record_reading.specs.declared.fault.Fault.{Fault}
use Rattle.record_reading.specs.declared.fault.FaultPlace.TheVariants.{At}
use Rattle.negotiation_inputs.specs.Participant.{IsEntry}
use Rattle.record_reading.specs.Reading.Bounds.{any_size, some_number, any_number, multiple, large_number, some_size, multiple_size, size_or, bound_or, stated_in, stated_each, stated_bounds, stated_by, bounds_of}
use Rattle.record_reading.specs.Reading.Entries.{modifier_beside, asked_of, with_asked, no_pair, own_pair, further_of, asked_pairs, colour_set_of, entry_fields, entry_object, with_entry}
use Rattle.negotiation_inputs.specs.Asked.{pair_asked, is_asked_already}
use Rattle.record_reading.specs.Reading.Fields.{◌>>=◌, is_key_of, required, stated, named, flag_or}
use Rattle.record_reading.specs.Reading.Names.{format_named, modifier_named, choice_named}
use Rattle.sysmem_sanitise.proofs.CallerLemmas.{bounds_by_numbers}
use Rattle.record_laws.specs.Ranges.{most_large}
use Rattle.record_laws.specs.Records.{natural, size_record, choice}
use Rattle.record_laws.specs.Sparse.{unless, fields_said, number_said, size_said, names_said, colours_in, is_usual, entry_said, entry_written}
use Rattle.record_laws.proofs.Bounds.{number_stated, some_stated, multiple_stated, large_stated, size_stated, some_size_stated, multiple_size_stated, each_field, as_number}
use Rattle.record_laws.proofs.Colours.{colour_set_stated}
use Rattle.record_laws.proofs.Each.{next}
use Rattle.record_laws.proofs.Names.{format_choice, modifier_choice}
use Rattle.record_laws.proofs.Participants.{pair_stated}
use Rattle.record_laws.proofs.Said.{said, get_said, object_taken, optional_reads, required_reads, unless_reads, number_reads, true_or_reads, names_are, same_number, both_true}

colours_read : (s : ColourSet) → (s ≡ no_colours → ⊥) → colour_set_of (names_said (colours_in s)) ≡ Ok s
colours_read s some = ap colour_set_of (names_are (colours_in s)) ∙ colour_set_stated s some

usual : (f : Option PixelFormat) (m : Option Modifier) → is_usual f m ≡ true → m ≡ option_map (λ _. Linear) f
usual None None is = refl
usual None (Some m) is = absurd (cc)
usual (Some f) None is = absurd (cc)
usual (Some f) (Some Linear) is = refl
usual (Some f) (Some IntelXTiled) is = absurd (cc)
usual (Some f) (Some IntelYTiled) is = absurd (cc)

asked_read : (e : Entry) → asked_of (entry_written e) ≡ Ok (pair_asked e)
asked_read e =
    let fs = entry_said e in
    let read_modifier = named (choice_named modifier_named) field.PixelFormatModifier in
    next (required field.PixelFormat (named (choice_named format_named) field.PixelFormat) (entry_written e)) e.format _ (Ok (pair_asked e))
    (required_reads code.WrongKind field.PixelFormat e.format (named (choice_named format_named) field.PixelFormat) fs (choice format_name e.format) refl (format_choice field.PixelFormat e.format))
    (next (modifier_beside e.format (entry_written e)) e.modifier _ (Ok (pair_asked e))
    (optional_reads field.PixelFormatModifier (option_map (λ _. Linear) e.format) e.modifier read_modifier fs (unless (is_usual e.format e.modifier) (choice modifier_name e.modifier)) refl
    (unless_reads (option_map (λ _. Linear) e.format) e.modifier read_modifier (is_usual e.format e.modifier) (choice modifier_name e.modifier) (usual e.format e.modifier) (modifier_choice field.PixelFormatModifier e.modifier))) refl)

own_read : (front : List Entry) (e : Entry) → IsEntry e → nat_lt (length front) 64 ≡ true → is_asked_already front (pair_asked e) ≡ false → own_pair None front (entry_written e) ≡ Ok (pair_asked e ∷ [])
own_read front e is room new =
    ap (λ o. if is_some o then (asked_of (entry_written e) >>= with_asked None field.PixelFormat front []) else no_pair (entry_written e)) (get_said (field_name field.PixelFormat) (entry_said e))
    ∙ next (asked_of (entry_written e)) (pair_asked e) (with_asked None field.PixelFormat front []) (Ok (pair_asked e ∷ [])) (asked_read e) (pair_stated front e is room new)

abbrev size_by : ℕ → ℕ → Size
size_by width height = record { width = width; height = height }

same_size : (s : Size) (n : ℕ) → (s.width == n && s.height == n) ≡ true → s ≡ square n
same_size s n same =
    let (wide, high) = both_true (s.width == n) (s.height == n) same in
    let w : s.width ≡ n = same_number s.width n wide in
    let h : s.height ≡ n = same_number s.height n high in
    ap (λ (x : ℕ). size_by x s.height) w ∙ ap (λ (y : ℕ). size_by n y) h

size_read : (at : Field) (absent : ℕ) (s : Size) (read : Field → Data → Result Size Fault) (fs : List (Field × Option Data)) → said (field_name at) fs ≡ size_said absent s
    → read at (size_record s) ≡ Ok s → size_or read at absent (fields_said fs) ≡ Ok s
size_read at absent s read fs is reads =
    optional_reads at (square absent) s (read at) fs (size_said absent s) is (unless_reads (square absent) s (read at) (s.width == absent && s.height == absent) (size_record s) (same_size s absent) reads)

number_read : (at : Field) (absent n : ℕ) (read : Field → Data → Result ℕ Fault) (fs : List (Field × Option Data)) → said (field_name at) fs ≡ number_said absent n
    → read at (natural n) ≡ Ok n → (bound_or read at absent (fields_said fs) >>= λ n. Ok (square n)) ≡ Ok (square n)
number_read at absent n read fs is reads = as_number n (bound_or read at absent (fields_said fs)) (optional_reads at absent n (read at) fs (number_said absent n) is (number_reads absent n (read at) reads))

bound_read : (e : Entry) → IsEntry e → IsInRange e.bounds.asked → (f : Bound) → stated_in f (entry_written e) ≡ Ok (sides_of e.bounds.asked f)
bound_read e is small MinSize =
    let b = e.bounds.asked in
    size_read field.MinSize 1 b.min_size some_size (entry_said e) refl (some_size_stated field.MinSize b.min_size b.min_width_some b.min_height_some (small MinSize Width) (small MinSize Height))
bound_read e is small MaxSize =
    let b = e.bounds.asked in size_read field.MaxSize most_number b.max_size any_size (entry_said e) refl (size_stated field.MaxSize most_number b.max_size (small MaxSize Width) (small MaxSize Height))
bound_read e is small SizeAlignment =
    let b = e.bounds.asked in
    size_read field.SizeAlignment 1 b.size_alignment multiple_size (entry_said e) refl
    (multiple_size_stated field.SizeAlignment b.size_alignment b.width_alignment_some b.height_alignment_some is.size_alignment.0 is.size_alignment.1)
bound_read e is small MinBytesPerRow =
    let b = e.bounds.asked in number_read field.MinBytesPerRow 1 b.min_bytes_per_row some_number (entry_said e) refl (some_stated field.MinBytesPerRow b.min_bytes_per_row b.min_row_some (small MinBytesPerRow Width))
bound_read e is small MaxBytesPerRow =
    let b = e.bounds.asked in number_read field.MaxBytesPerRow most_number b.max_bytes_per_row any_number (entry_said e) refl (number_stated field.MaxBytesPerRow most_number b.max_bytes_per_row (small MaxBytesPerRow Width))
bound_read e is small BytesPerRowDivisor =
    let b = e.bounds.asked in number_read field.BytesPerRowDivisor 1 b.bytes_per_row_divisor multiple (entry_said e) refl (multiple_stated field.BytesPerRowDivisor b.bytes_per_row_divisor b.row_divisor_some e.bounds.small_divisor)
bound_read e is small StartOffsetDivisor =
    let b = e.bounds.asked in number_read field.StartOffsetDivisor 1 b.start_offset_divisor multiple (entry_said e) refl (multiple_stated field.StartOffsetDivisor b.start_offset_divisor b.start_divisor_some is.start_offset_divisor)
bound_read e is small DisplayRectAlignment =
    let b = e.bounds.asked in
    size_read field.DisplayRectAlignment 1 b.display_rect_alignment multiple_size (entry_said e) refl
    (multiple_size_stated field.DisplayRectAlignment b.display_rect_alignment b.display_width_some b.display_height_some is.display_rect_alignment.0 is.display_rect_alignment.1)
bound_read e is small RequiredMinSize =
    let b = e.bounds.asked in
    size_read field.RequiredMinSize most_number b.required_min_size some_size (entry_said e) refl
    (some_size_stated field.RequiredMinSize b.required_min_size is.required_min_width is.required_min_height (small RequiredMinSize Width) (small RequiredMinSize Height))
bound_read e is small RequiredMaxSize =
    let b = e.bounds.asked in size_read field.RequiredMaxSize 0 b.required_max_size any_size (entry_said e) refl (size_stated field.RequiredMaxSize most_number b.required_max_size (small RequiredMaxSize Width) (small RequiredMaxSize Height))
bound_read e is small MaxWidthTimesHeight =
    let b = e.bounds.asked in number_read field.MaxWidthTimesHeight most_large b.max_width_times_height large_number (entry_said e) refl (large_stated field.MaxWidthTimesHeight b.max_width_times_height is.max_width_times_height (small MaxWidthTimesHeight Width))

bounds_read : (e : Entry) → IsEntry e → IsInRange e.bounds.asked → bounds_of (entry_written e) ≡ Ok e.bounds
bounds_read e is small =
    let d = entry_written e in
    let at = field.RequireBytesPerRowAtPixelBoundary in
    let all : stated_each all_bounds d ≡ Ok (values_of e.bounds.asked) = each_field all_bounds d (sides_of e.bounds.asked) (bound_read e is small) in
    let flag : flag_or at false d ≡ Ok e.bounds.at_pixel_boundary = true_or_reads at e.bounds.at_pixel_boundary (entry_said e) refl in
    let whole : stated_bounds d ≡ Ok (stated_by e.bounds) = next (stated_each all_bounds d) (values_of e.bounds.asked) _ (Ok (stated_by e.bounds)) all (next (flag_or at false d) e.bounds.at_pixel_boundary _ (Ok (stated_by e.bounds)) flag refl) in
    next (stated_bounds d) (stated_by e.bounds) _ (Ok e.bounds) whole (ap Ok (bounds_by_numbers e.bounds))

pub entry_read : (front : List Entry) (e : Entry) → IsEntry e → IsInRange e.bounds.asked → nat_lt (length front) 64 ≡ true → is_asked_already front (pair_asked e) ≡ false
    → with_entry None front (entry_written e) ≡ Ok (front ++ e ∷ [])
unfolding is_key_of
entry_read front e is small room new =
    let d = entry_written e in
    let fs = entry_said e in
    let own = pair_asked e ∷ [] in
    next (entry_object d) d _ (Ok (front ++ e ∷ [])) (object_taken (At field.ImageFormatConstraints) entry_fields fs refl)
    (next (asked_pairs None front d) own _ (Ok (front ++ e ∷ []))
    (next (own_pair None front d) own _ (Ok own) (own_read front e is room new) (optional_reads field.PixelFormatAndModifiers own own (further_of None front own) fs None refl refl))
    (next (stated code.NoColourSpaces field.ColorSpaces d >>= colour_set_of) e.colours _ (Ok (front ++ e ∷ []))
    (required_reads code.NoColourSpaces field.ColorSpaces e.colours colour_set_of fs (names_said (colours_in e.colours)) refl (colours_read e.colours is.some_colours))
    (next (bounds_of d) e.bounds _ (Ok (front ++ e ∷ [])) (bounds_read e is small) refl)))
