use Rattle.std.proofs.Common.{arith}
use Rattle.sysmem_image.proofs.Meets.{in_range_by}
use Rattle.sysmem_image.proofs.MergedFields.{merged_by}
use Rattle.sysmem_image.proofs.merging.merged.Goals as goal

pub returns-clause-in_range : goal.returns-clause-in_range
returns-clause-in_range c =
    in_range_by _ c.greatest_size-min_size.ensures.in_range c.least_size-max_size.ensures.in_range c.in_ok-size_alignment.ensures.in_range
    (omega arith) (omega arith) (omega arith) (omega arith)
    c.in_ok-display_rect_alignment.ensures.in_range c.least_size-required_min_size.ensures.in_range c.greatest_size-required_max_size.ensures.in_range (omega arith)

pub returns-clause-ok : goal.returns-clause-ok
returns-clause-ok c =
    merged_by c.args.a.now c.args.b.now _ c.greatest_size-min_size.ensures.size c.least_size-max_size.ensures.size c.in_ok-size_alignment.ensures.ok c.greatest-min_bytes_per_row.ensures c.least-max_bytes_per_row.ensures
    c.in_ok-bytes_per_row_divisor.ensures.ok c.in_ok-start_offset_divisor.ensures.ok c.in_ok-display_rect_alignment.ensures.ok c.least_size-required_min_size.ensures.size c.greatest_size-required_max_size.ensures.size c.least_large-max_width_times_height.ensures
