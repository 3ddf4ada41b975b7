use Rattle.std.proofs.Common.{arith, refl, ◌++◌, ◌∷◌, []}
use Rattle.sysmem_image.specs.Fields.{MinSize, MaxSize, SizeAlignment, MinBytesPerRow, MaxBytesPerRow, BytesPerRowDivisor, StartOffsetDivisor, DisplayRectAlignment, RequiredMinSize, RequiredMaxSize, MaxWidthTimesHeight}
use Rattle.sysmem_image.proofs.KeptBounds.{size_more, number_more, number_joined, size_joined, read_by}
use Rattle.sysmem_image.proofs.read.BoundsRead.with.Goals as goal

pub returns : goal.returns
returns c = λ o es old.
    let k = c.args.self.now in
    let b = c.args.more.now in
    read_by o (es ++ b ∷ []) _
    c.greatest_size-min_size.ensures.in_range
    c.least_size-max_size.ensures.in_range
    c.joined_size-size_alignment.ensures.small
    (omega arith)
    (omega arith)
    c.joined-bytes_per_row_divisor.ensures.small
    c.joined-start_offset_divisor.ensures.small
    c.joined_size-display_rect_alignment.ensures.small
    c.least_size-required_min_size.ensures.in_range
    c.greatest_size-required_max_size.ensures.in_range
    (omega arith)
    (size_more MinSize o es b k.min_size c.greatest_size-min_size.result c.greatest_size-min_size.ensures.size.width c.greatest_size-min_size.ensures.size.height (old.each MinSize))
    (size_more MaxSize o es b k.max_size c.least_size-max_size.result c.least_size-max_size.ensures.size.width c.least_size-max_size.ensures.size.height (old.each MaxSize))
    (size_joined SizeAlignment refl o es b k.size_alignment c.joined_size-size_alignment.result b.size_alignment refl refl c.joined_size-size_alignment.ensures.joined (old.each SizeAlignment))
    (number_more MinBytesPerRow o es b k.min_bytes_per_row c.greatest-min_bytes_per_row.result (λ _. c.greatest-min_bytes_per_row.ensures) (old.each MinBytesPerRow))
    (number_more MaxBytesPerRow o es b k.max_bytes_per_row c.least-max_bytes_per_row.result (λ _. c.least-max_bytes_per_row.ensures) (old.each MaxBytesPerRow))
    (number_joined BytesPerRowDivisor refl o es b k.bytes_per_row_divisor c.joined-bytes_per_row_divisor.result b.bytes_per_row_divisor (λ _. refl) c.joined-bytes_per_row_divisor.ensures.joined (old.each BytesPerRowDivisor))
    (number_joined StartOffsetDivisor refl o es b k.start_offset_divisor c.joined-start_offset_divisor.result b.start_offset_divisor (λ _. refl) c.joined-start_offset_divisor.ensures.joined (old.each StartOffsetDivisor))
    (size_joined DisplayRectAlignment refl o es b k.display_rect_alignment c.joined_size-display_rect_alignment.result b.display_rect_alignment refl refl c.joined_size-display_rect_alignment.ensures.joined (old.each DisplayRectAlignment))
    (size_more RequiredMinSize o es b k.required_min_size c.least_size-required_min_size.result c.least_size-required_min_size.ensures.size.width c.least_size-required_min_size.ensures.size.height (old.each RequiredMinSize))
    (size_more RequiredMaxSize o es b k.required_max_size c.greatest_size-required_max_size.result c.greatest_size-required_max_size.ensures.size.width c.greatest_size-required_max_size.ensures.size.height (old.each RequiredMaxSize))
    (number_more MaxWidthTimesHeight o es b k.max_width_times_height c.least_large-max_width_times_height.result (λ _. c.least_large-max_width_times_height.ensures) (old.each MaxWidthTimesHeight))
