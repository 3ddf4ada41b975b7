-- Bounds are those of their values.
use Rattle.std.proofs.Common.{◌≡◌, ℕ, ◌≤◌, Result, Ok, Err, ap, sym, ◌∙◌, arith}
use Rattle.serde_json.specs.Data.{Data}
use Rattle.sysmem_image.specs.contracts.bounds.ImageBounds.{the_type as bounds_type}
use Rattle.sysmem_image.specs.contracts.entry.EntryBounds.{the_type as entry_bounds_type}
use Rattle.sysmem_image.specs.declared.bounds.ImageBounds.{ImageBounds}
use Rattle.sysmem_image.specs.declared.entry.EntryBounds.{EntryBounds}
use Rattle.sysmem_image.specs.Size.{most_multiple}
use Rattle.sysmem_image.proofs.CallerLemmas.{max_one, sides_same}
use Rattle.record_reading.specs.declared.fault.Fault.{Fault}
use Rattle.record_reading.specs.Reading.Bounds.{stated_bounds, stated_by, bounds_by, bounds_of, divisor_read}
use Rattle.record_reading.specs.Reading.Fields.{seen_by, ◌>>=◌}

divisor_same : (n : ℕ) → 1 ≤ n → n ≤ most_multiple → divisor_read n ≡ n
divisor_same n some small = omega arith

-- bounds are those of their values
pub bounds_by-stated_by : (b : EntryBounds) → bounds_by (stated_by b) ≡ b
bounds_by-stated_by b =
    let a : ImageBounds = b.asked in
    let min_size = sides_same a.min_size a.min_width_some a.min_height_some in
    let size_alignment = sides_same a.size_alignment a.width_alignment_some a.height_alignment_some in
    let display_rect_alignment = sides_same a.display_rect_alignment a.display_width_some a.display_height_some in
    let min_bytes_per_row = max_one a.min_bytes_per_row a.min_row_some in
    let bytes_per_row_divisor = divisor_same a.bytes_per_row_divisor a.row_divisor_some b.small_divisor in
    let start_offset_divisor = max_one a.start_offset_divisor a.start_divisor_some in
    let asked : (bounds_by (stated_by b)).asked ≡ b.asked = bounds_type.to_one (bounds_by (stated_by b)).asked a (cc) in
    entry_bounds_type.to_one (bounds_by (stated_by b)) b (cc)

-- what is read by its values is read
pub read_by_numbers : (d : Data) (r : Result EntryBounds Fault) → seen_by stated_by r ≡ stated_bounds d → r ≡ bounds_of d
read_by_numbers d (Ok b) is = sym (ap (λ r. r >>= λ stated. Ok (bounds_by stated)) (sym is) ∙ ap Ok (bounds_by-stated_by b))
read_by_numbers d (Err fault) is = ap (λ r. r >>= λ stated. Ok (bounds_by stated)) is
