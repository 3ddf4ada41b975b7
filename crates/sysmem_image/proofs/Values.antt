-- Bounds are those of their values.
use Rattle.std.proofs.Common.{◌≡◌, ℕ, ◌≤◌, ap, ◌∙◌, arith}
use Rattle.std.specs.Prelude.{max}
use Rattle.sysmem_image.specs.contracts.bounds.ImageBounds.{the_type as bounds_type}
use Rattle.sysmem_image.specs.declared.bounds.ImageBounds.{ImageBounds}
use Rattle.sysmem_image.specs.declared.size.Size.{Size}
use Rattle.sysmem_image.specs.Fields.{Bound, bounds_with, sides_of, MinSize, MaxSize, SizeAlignment, MinBytesPerRow, MaxBytesPerRow, BytesPerRowDivisor, StartOffsetDivisor, DisplayRectAlignment, RequiredMinSize, RequiredMaxSize, MaxWidthTimesHeight}
use Rattle.sysmem_image.specs.Size.{some_sides}

pub max_one : (n : ℕ) → 1 ≤ n → max n 1 ≡ n
max_one n some = omega arith

pub sides_same : (s : Size) → 1 ≤ s.width → 1 ≤ s.height → some_sides s ≡ s
sides_same s wide high =
    let with_width : ℕ → Size = λ w. record { width = w; height = max s.height 1 } in
    let with_height : ℕ → Size = λ h. record { width = s.width; height = h } in
    ap with_width (max_one s.width wide) ∙ ap with_height (max_one s.height high)

some_size : (v s : Size) → v ≡ s → 1 ≤ s.width → 1 ≤ s.height → some_sides v ≡ s
some_size v s is wide high = ap some_sides is ∙ sides_same s wide high

number : (v s : Size) → v ≡ s → v.width ≡ s.width
number v s is = ap (λ (s : Size). s.width) is

some_number : (v s : Size) → v ≡ s → 1 ≤ s.width → max v.width 1 ≡ s.width
some_number v s is some = ap (λ (s : Size). max s.width 1) is ∙ max_one s.width some

-- bounds of which each field has its value
pub with_values : (b : ImageBounds) (v : Bound → Size) → ((f : Bound) → v f ≡ sides_of b f) → bounds_with v ≡ b
with_values b v same =
    let min_size : some_sides (v MinSize) ≡ b.min_size = some_size (v MinSize) b.min_size (same MinSize) b.min_width_some b.min_height_some in
    let max_size : v MaxSize ≡ b.max_size = same MaxSize in
    let size_alignment : some_sides (v SizeAlignment) ≡ b.size_alignment = some_size (v SizeAlignment) b.size_alignment (same SizeAlignment) b.width_alignment_some b.height_alignment_some in
    let min_bytes_per_row : max (v MinBytesPerRow).width 1 ≡ b.min_bytes_per_row = some_number (v MinBytesPerRow) (sides_of b MinBytesPerRow) (same MinBytesPerRow) b.min_row_some in
    let max_bytes_per_row : (v MaxBytesPerRow).width ≡ b.max_bytes_per_row = number (v MaxBytesPerRow) (sides_of b MaxBytesPerRow) (same MaxBytesPerRow) in
    let bytes_per_row_divisor : max (v BytesPerRowDivisor).width 1 ≡ b.bytes_per_row_divisor = some_number (v BytesPerRowDivisor) (sides_of b BytesPerRowDivisor) (same BytesPerRowDivisor) b.row_divisor_some in
    let start_offset_divisor : max (v StartOffsetDivisor).width 1 ≡ b.start_offset_divisor = some_number (v StartOffsetDivisor) (sides_of b StartOffsetDivisor) (same StartOffsetDivisor) b.start_divisor_some in
    let display_rect_alignment : some_sides (v DisplayRectAlignment) ≡ b.display_rect_alignment = some_size (v DisplayRectAlignment) b.display_rect_alignment (same DisplayRectAlignment) b.display_width_some b.display_height_some in
    let required_min_size : v RequiredMinSize ≡ b.required_min_size = same RequiredMinSize in
    let required_max_size : v RequiredMaxSize ≡ b.required_max_size = same RequiredMaxSize in
    let max_width_times_height : (v MaxWidthTimesHeight).width ≡ b.max_width_times_height = number (v MaxWidthTimesHeight) (sides_of b MaxWidthTimesHeight) (same MaxWidthTimesHeight) in
    bounds_type.to_one (bounds_with v) b (cc)
