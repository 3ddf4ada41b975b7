-- Bounds that are merged of two, from each of their fields.
use Rattle.std.specs.Prelude.{◌≡◌, max, min}
use Rattle.sysmem_image.specs.declared.bounds.ImageBounds.{ImageBounds}
use Rattle.sysmem_image.specs.Fields.{MinSize, MaxSize, SizeAlignment, MinBytesPerRow, MaxBytesPerRow, BytesPerRowDivisor, StartOffsetDivisor, DisplayRectAlignment, RequiredMinSize, RequiredMaxSize, MaxWidthTimesHeight, Width, Height}
use Rattle.sysmem_image.specs.Merged.{IsMerged}
use Rattle.sysmem_image.specs.Multiples.{IsLcm, IsSizeLcm}
use Rattle.sysmem_image.specs.Size.{IsSizeGreatest, IsSizeLeast}

-- the fields in the table's order
pub merged_by : (a b m : ImageBounds) → IsSizeGreatest a.min_size b.min_size m.min_size → IsSizeLeast a.max_size b.max_size m.max_size → IsSizeLcm a.size_alignment b.size_alignment m.size_alignment
    → m.min_bytes_per_row ≡ max a.min_bytes_per_row b.min_bytes_per_row → m.max_bytes_per_row ≡ min a.max_bytes_per_row b.max_bytes_per_row
    → IsLcm a.bytes_per_row_divisor b.bytes_per_row_divisor m.bytes_per_row_divisor → IsLcm a.start_offset_divisor b.start_offset_divisor m.start_offset_divisor
    → IsSizeLcm a.display_rect_alignment b.display_rect_alignment m.display_rect_alignment → IsSizeLeast a.required_min_size b.required_min_size m.required_min_size
    → IsSizeGreatest a.required_max_size b.required_max_size m.required_max_size → m.max_width_times_height ≡ min a.max_width_times_height b.max_width_times_height → IsMerged a b m
merged_by a b m n0 n1 n2 n3 n4 n5 n6 n7 n8 n9 n10 MinSize Width = n0.width
merged_by a b m n0 n1 n2 n3 n4 n5 n6 n7 n8 n9 n10 MinSize Height = n0.height
merged_by a b m n0 n1 n2 n3 n4 n5 n6 n7 n8 n9 n10 MaxSize Width = n1.width
merged_by a b m n0 n1 n2 n3 n4 n5 n6 n7 n8 n9 n10 MaxSize Height = n1.height
merged_by a b m n0 n1 n2 n3 n4 n5 n6 n7 n8 n9 n10 SizeAlignment Width = n2.width
merged_by a b m n0 n1 n2 n3 n4 n5 n6 n7 n8 n9 n10 SizeAlignment Height = n2.height
merged_by a b m n0 n1 n2 n3 n4 n5 n6 n7 n8 n9 n10 MinBytesPerRow d = n3
merged_by a b m n0 n1 n2 n3 n4 n5 n6 n7 n8 n9 n10 MaxBytesPerRow d = n4
merged_by a b m n0 n1 n2 n3 n4 n5 n6 n7 n8 n9 n10 BytesPerRowDivisor d = n5
merged_by a b m n0 n1 n2 n3 n4 n5 n6 n7 n8 n9 n10 StartOffsetDivisor d = n6
merged_by a b m n0 n1 n2 n3 n4 n5 n6 n7 n8 n9 n10 DisplayRectAlignment Width = n7.width
merged_by a b m n0 n1 n2 n3 n4 n5 n6 n7 n8 n9 n10 DisplayRectAlignment Height = n7.height
merged_by a b m n0 n1 n2 n3 n4 n5 n6 n7 n8 n9 n10 RequiredMinSize Width = n8.width
merged_by a b m n0 n1 n2 n3 n4 n5 n6 n7 n8 n9 n10 RequiredMinSize Height = n8.height
merged_by a b m n0 n1 n2 n3 n4 n5 n6 n7 n8 n9 n10 RequiredMaxSize Width = n9.width
merged_by a b m n0 n1 n2 n3 n4 n5 n6 n7 n8 n9 n10 RequiredMaxSize Height = n9.height
merged_by a b m n0 n1 n2 n3 n4 n5 n6 n7 n8 n9 n10 MaxWidthTimesHeight d = n10
