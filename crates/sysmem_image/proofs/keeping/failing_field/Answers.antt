use Rattle.std.proofs.Common.{refl}
use Rattle.std.proofs.lemmas.Bool.{both_ways}
use Rattle.sysmem_image.specs.Fields.{MinSize, MaxSize, SizeAlignment, MinBytesPerRow, MaxBytesPerRow, BytesPerRowDivisor, StartOffsetDivisor, DisplayRectAlignment, RequiredMinSize, RequiredMaxSize, MaxWidthTimesHeight, Width, Height, KeepsIn}
use Rattle.sysmem_image.proofs.Meets.{in_both}
use Rattle.sysmem_image.proofs.keeping.failing_field.Goals as goal

pub returns-then-not-min_size-clause-failing : goal.returns-then-not-min_size-clause-failing
returns-then-not-min_size-clause-failing c = record {
  bound = MinSize;
  named = refl;
  fails = λ k. both_ways c.is_size_up_to-min_size.result c.if-not-min_size.true (c.is_size_up_to-min_size.ensures.1 (record { width = k Width; height = k Height }));
  before = tt;
}

pub returns-then-not-max_size-clause-failing : goal.returns-then-not-max_size-clause-failing
returns-then-not-max_size-clause-failing c = record {
  bound = MaxSize;
  named = refl;
  fails = λ k. both_ways c.is_size_up_to-max_size.result c.if-not-max_size.true (c.is_size_up_to-max_size.ensures.1 (record { width = k Width; height = k Height }));
  before = (in_both MinSize c.args.a.now c.args.b.now (c.is_size_up_to-min_size.ensures.0 c.if-not-min_size.false).width (c.is_size_up_to-min_size.ensures.0 c.if-not-min_size.false).height, tt);
}

pub returns-then-not-size_alignment-clause-failing : goal.returns-then-not-size_alignment-clause-failing
returns-then-not-size_alignment-clause-failing c = record {
  bound = SizeAlignment;
  named = refl;
  fails = λ k. both_ways c.divides_size-size_alignment.result c.if-not-size_alignment.true (c.divides_size-size_alignment.ensures.1 (record { width = k Width; height = k Height }));
  before = (in_both MinSize c.args.a.now c.args.b.now (c.is_size_up_to-min_size.ensures.0 c.if-not-min_size.false).width (c.is_size_up_to-min_size.ensures.0 c.if-not-min_size.false).height, (in_both MaxSize c.args.a.now c.args.b.now (c.is_size_up_to-max_size.ensures.0 c.if-not-max_size.false).width (c.is_size_up_to-max_size.ensures.0 c.if-not-max_size.false).height, tt));
}

pub returns-then-not-min_bytes_per_row-clause-failing : goal.returns-then-not-min_bytes_per_row-clause-failing
returns-then-not-min_bytes_per_row-clause-failing c = record {
  bound = MinBytesPerRow;
  named = refl;
  fails = λ k. both_ways c.is_up_to-min_bytes_per_row.result c.if-not-min_bytes_per_row.true (c.is_up_to-min_bytes_per_row.ensures.1 (k Width));
  before = (in_both MinSize c.args.a.now c.args.b.now (c.is_size_up_to-min_size.ensures.0 c.if-not-min_size.false).width (c.is_size_up_to-min_size.ensures.0 c.if-not-min_size.false).height, (in_both MaxSize c.args.a.now c.args.b.now (c.is_size_up_to-max_size.ensures.0 c.if-not-max_size.false).width (c.is_size_up_to-max_size.ensures.0 c.if-not-max_size.false).height, (in_both SizeAlignment c.args.a.now c.args.b.now (c.divides_size-size_alignment.ensures.0 c.if-not-size_alignment.false).width (c.divides_size-size_alignment.ensures.0 c.if-not-size_alignment.false).height, tt)));
}

pub returns-then-not-max_bytes_per_row-clause-failing : goal.returns-then-not-max_bytes_per_row-clause-failing
returns-then-not-max_bytes_per_row-clause-failing c = record {
  bound = MaxBytesPerRow;
  named = refl;
  fails = λ k. both_ways c.is_up_to-max_bytes_per_row.result c.if-not-max_bytes_per_row.true (c.is_up_to-max_bytes_per_row.ensures.1 (k Width));
  before = (in_both MinSize c.args.a.now c.args.b.now (c.is_size_up_to-min_size.ensures.0 c.if-not-min_size.false).width (c.is_size_up_to-min_size.ensures.0 c.if-not-min_size.false).height, (in_both MaxSize c.args.a.now c.args.b.now (c.is_size_up_to-max_size.ensures.0 c.if-not-max_size.false).width (c.is_size_up_to-max_size.ensures.0 c.if-not-max_size.false).height, (in_both SizeAlignment c.args.a.now c.args.b.now (c.divides_size-size_alignment.ensures.0 c.if-not-size_alignment.false).width (c.divides_size-size_alignment.ensures.0 c.if-not-size_alignment.false).height, (λ _. c.is_up_to-min_bytes_per_row.ensures.0 c.if-not-min_bytes_per_row.false, tt))));
}

pub returns-then-not-bytes_per_row_divisor-clause-failing : goal.returns-then-not-bytes_per_row_divisor-clause-failing
returns-then-not-bytes_per_row_divisor-clause-failing c = record {
  bound = BytesPerRowDivisor;
  named = refl;
  fails = λ k. both_ways c.divides-bytes_per_row_divisor.result c.if-not-bytes_per_row_divisor.true (c.divides-bytes_per_row_divisor.ensures.1 (k Width));
  before = (in_both MinSize c.args.a.now c.args.b.now (c.is_size_up_to-min_size.ensures.0 c.if-not-min_size.false).width (c.is_size_up_to-min_size.ensures.0 c.if-not-min_size.false).height, (in_both MaxSize c.args.a.now c.args.b.now (c.is_size_up_to-max_size.ensures.0 c.if-not-max_size.false).width (c.is_size_up_to-max_size.ensures.0 c.if-not-max_size.false).height, (in_both SizeAlignment c.args.a.now c.args.b.now (c.divides_size-size_alignment.ensures.0 c.if-not-size_alignment.false).width (c.divides_size-size_alignment.ensures.0 c.if-not-size_alignment.false).height, (λ _. c.is_up_to-min_bytes_per_row.ensures.0 c.if-not-min_bytes_per_row.false, (λ _. c.is_up_to-max_bytes_per_row.ensures.0 c.if-not-max_bytes_per_row.false, tt)))));
}

pub returns-then-not-start_offset_divisor-clause-failing : goal.returns-then-not-start_offset_divisor-clause-failing
returns-then-not-start_offset_divisor-clause-failing c = record {
  bound = StartOffsetDivisor;
  named = refl;
  fails = λ k. both_ways c.divides-start_offset_divisor.result c.if-not-start_offset_divisor.true (c.divides-start_offset_divisor.ensures.1 (k Width));
  before = (in_both MinSize c.args.a.now c.args.b.now (c.is_size_up_to-min_size.ensures.0 c.if-not-min_size.false).width (c.is_size_up_to-min_size.ensures.0 c.if-not-min_size.false).height, (in_both MaxSize c.args.a.now c.args.b.now (c.is_size_up_to-max_size.ensures.0 c.if-not-max_size.false).width (c.is_size_up_to-max_size.ensures.0 c.if-not-max_size.false).height, (in_both SizeAlignment c.args.a.now c.args.b.now (c.divides_size-size_alignment.ensures.0 c.if-not-size_alignment.false).width (c.divides_size-size_alignment.ensures.0 c.if-not-size_alignment.false).height, (λ _. c.is_up_to-min_bytes_per_row.ensures.0 c.if-not-min_bytes_per_row.false, (λ _. c.is_up_to-max_bytes_per_row.ensures.0 c.if-not-max_bytes_per_row.false, (λ _. c.divides-bytes_per_row_divisor.ensures.0 c.if-not-bytes_per_row_divisor.false, tt))))));
}

pub returns-then-not-display_rect_alignment-clause-failing : goal.returns-then-not-display_rect_alignment-clause-failing
returns-then-not-display_rect_alignment-clause-failing c = record {
  bound = DisplayRectAlignment;
  named = refl;
  fails = λ k. both_ways c.divides_size-display_rect_alignment.result c.if-not-display_rect_alignment.true (c.divides_size-display_rect_alignment.ensures.1 (record { width = k Width; height = k Height }));
  before = (in_both MinSize c.args.a.now c.args.b.now (c.is_size_up_to-min_size.ensures.0 c.if-not-min_size.false).width (c.is_size_up_to-min_size.ensures.0 c.if-not-min_size.false).height, (in_both MaxSize c.args.a.now c.args.b.now (c.is_size_up_to-max_size.ensures.0 c.if-not-max_size.false).width (c.is_size_up_to-max_size.ensures.0 c.if-not-max_size.false).height, (in_both SizeAlignment c.args.a.now c.args.b.now (c.divides_size-size_alignment.ensures.0 c.if-not-size_alignment.false).width (c.divides_size-size_alignment.ensures.0 c.if-not-size_alignment.false).height, (λ _. c.is_up_to-min_bytes_per_row.ensures.0 c.if-not-min_bytes_per_row.false, (λ _. c.is_up_to-max_bytes_per_row.ensures.0 c.if-not-max_bytes_per_row.false, (λ _. c.divides-bytes_per_row_divisor.ensures.0 c.if-not-bytes_per_row_divisor.false, (λ _. c.divides-start_offset_divisor.ensures.0 c.if-not-start_offset_divisor.false, tt)))))));
}

pub returns-then-not-required_min_size-clause-failing : goal.returns-then-not-required_min_size-clause-failing
returns-then-not-required_min_size-clause-failing c = record {
  bound = RequiredMinSize;
  named = refl;
  fails = λ k. both_ways c.is_size_up_to-required_min_size.result c.if-not-required_min_size.true (c.is_size_up_to-required_min_size.ensures.1 (record { width = k Width; height = k Height }));
  before = (in_both MinSize c.args.a.now c.args.b.now (c.is_size_up_to-min_size.ensures.0 c.if-not-min_size.false).width (c.is_size_up_to-min_size.ensures.0 c.if-not-min_size.false).height, (in_both MaxSize c.args.a.now c.args.b.now (c.is_size_up_to-max_size.ensures.0 c.if-not-max_size.false).width (c.is_size_up_to-max_size.ensures.0 c.if-not-max_size.false).height, (in_both SizeAlignment c.args.a.now c.args.b.now (c.divides_size-size_alignment.ensures.0 c.if-not-size_alignment.false).width (c.divides_size-size_alignment.ensures.0 c.if-not-size_alignment.false).height, (λ _. c.is_up_to-min_bytes_per_row.ensures.0 c.if-not-min_bytes_per_row.false, (λ _. c.is_up_to-max_bytes_per_row.ensures.0 c.if-not-max_bytes_per_row.false, (λ _. c.divides-bytes_per_row_divisor.ensures.0 c.if-not-bytes_per_row_divisor.false, (λ _. c.divides-start_offset_divisor.ensures.0 c.if-not-start_offset_divisor.false, (in_both DisplayRectAlignment c.args.a.now c.args.b.now (c.divides_size-display_rect_alignment.ensures.0 c.if-not-display_rect_alignment.false).width (c.divides_size-display_rect_alignment.ensures.0 c.if-not-display_rect_alignment.false).height, tt))))))));
}

pub returns-then-not-required_max_size-clause-failing : goal.returns-then-not-required_max_size-clause-failing
returns-then-not-required_max_size-clause-failing c = record {
  bound = RequiredMaxSize;
  named = refl;
  fails = λ k. both_ways c.is_size_up_to-required_max_size.result c.if-not-required_max_size.true (c.is_size_up_to-required_max_size.ensures.1 (record { width = k Width; height = k Height }));
  before = (in_both MinSize c.args.a.now c.args.b.now (c.is_size_up_to-min_size.ensures.0 c.if-not-min_size.false).width (c.is_size_up_to-min_size.ensures.0 c.if-not-min_size.false).height, (in_both MaxSize c.args.a.now c.args.b.now (c.is_size_up_to-max_size.ensures.0 c.if-not-max_size.false).width (c.is_size_up_to-max_size.ensures.0 c.if-not-max_size.false).height, (in_both SizeAlignment c.args.a.now c.args.b.now (c.divides_size-size_alignment.ensures.0 c.if-not-size_alignment.false).width (c.divides_size-size_alignment.ensures.0 c.if-not-size_alignment.false).height, (λ _. c.is_up_to-min_bytes_per_row.ensures.0 c.if-not-min_bytes_per_row.false, (λ _. c.is_up_to-max_bytes_per_row.ensures.0 c.if-not-max_bytes_per_row.false, (λ _. c.divides-bytes_per_row_divisor.ensures.0 c.if-not-bytes_per_row_divisor.false, (λ _. c.divides-start_offset_divisor.ensures.0 c.if-not-start_offset_divisor.false, (in_both DisplayRectAlignment c.args.a.now c.args.b.now (c.divides_size-display_rect_alignment.ensures.0 c.if-not-display_rect_alignment.false).width (c.divides_size-display_rect_alignment.ensures.0 c.if-not-display_rect_alignment.false).height, (in_both RequiredMinSize c.args.a.now c.args.b.now (c.is_size_up_to-required_min_size.ensures.0 c.if-not-required_min_size.false).width (c.is_size_up_to-required_min_size.ensures.0 c.if-not-required_min_size.false).height, tt)))))))));
}

pub returns-then-not-max_width_times_height-clause-failing : goal.returns-then-not-max_width_times_height-clause-failing
returns-then-not-max_width_times_height-clause-failing c = record {
  bound = MaxWidthTimesHeight;
  named = refl;
  fails = λ k. both_ways c.is_large_up_to-max_width_times_height.result c.if-not-max_width_times_height.true (c.is_large_up_to-max_width_times_height.ensures.1 (k Width));
  before = (in_both MinSize c.args.a.now c.args.b.now (c.is_size_up_to-min_size.ensures.0 c.if-not-min_size.false).width (c.is_size_up_to-min_size.ensures.0 c.if-not-min_size.false).height, (in_both MaxSize c.args.a.now c.args.b.now (c.is_size_up_to-max_size.ensures.0 c.if-not-max_size.false).width (c.is_size_up_to-max_size.ensures.0 c.if-not-max_size.false).height, (in_both SizeAlignment c.args.a.now c.args.b.now (c.divides_size-size_alignment.ensures.0 c.if-not-size_alignment.false).width (c.divides_size-size_alignment.ensures.0 c.if-not-size_alignment.false).height, (λ _. c.is_up_to-min_bytes_per_row.ensures.0 c.if-not-min_bytes_per_row.false, (λ _. c.is_up_to-max_bytes_per_row.ensures.0 c.if-not-max_bytes_per_row.false, (λ _. c.divides-bytes_per_row_divisor.ensures.0 c.if-not-bytes_per_row_divisor.false, (λ _. c.divides-start_offset_divisor.ensures.0 c.if-not-start_offset_divisor.false, (in_both DisplayRectAlignment c.args.a.now c.args.b.now (c.divides_size-display_rect_alignment.ensures.0 c.if-not-display_rect_alignment.false).width (c.divides_size-display_rect_alignment.ensures.0 c.if-not-display_rect_alignment.false).height, (in_both RequiredMinSize c.args.a.now c.args.b.now (c.is_size_up_to-required_min_size.ensures.0 c.if-not-required_min_size.false).width (c.is_size_up_to-required_min_size.ensures.0 c.if-not-required_min_size.false).height, (in_both RequiredMaxSize c.args.a.now c.args.b.now (c.is_size_up_to-required_max_size.ensures.0 c.if-not-required_max_size.false).width (c.is_size_up_to-required_max_size.ensures.0 c.if-not-required_max_size.false).height, tt))))))))));
}

pub returns-clause-kept : goal.returns-clause-kept
returns-clause-kept c = λ f. elim f as (λ f. KeepsIn f c.args.a.now c.args.b.now) [
  | MinSize ↦ in_both MinSize c.args.a.now c.args.b.now (c.is_size_up_to-min_size.ensures.0 c.if-not-min_size.false).width (c.is_size_up_to-min_size.ensures.0 c.if-not-min_size.false).height
  | MaxSize ↦ in_both MaxSize c.args.a.now c.args.b.now (c.is_size_up_to-max_size.ensures.0 c.if-not-max_size.false).width (c.is_size_up_to-max_size.ensures.0 c.if-not-max_size.false).height
  | SizeAlignment ↦ in_both SizeAlignment c.args.a.now c.args.b.now (c.divides_size-size_alignment.ensures.0 c.if-not-size_alignment.false).width (c.divides_size-size_alignment.ensures.0 c.if-not-size_alignment.false).height
  | MinBytesPerRow ↦ λ _. c.is_up_to-min_bytes_per_row.ensures.0 c.if-not-min_bytes_per_row.false
  | MaxBytesPerRow ↦ λ _. c.is_up_to-max_bytes_per_row.ensures.0 c.if-not-max_bytes_per_row.false
  | BytesPerRowDivisor ↦ λ _. c.divides-bytes_per_row_divisor.ensures.0 c.if-not-bytes_per_row_divisor.false
  | StartOffsetDivisor ↦ λ _. c.divides-start_offset_divisor.ensures.0 c.if-not-start_offset_divisor.false
  | DisplayRectAlignment ↦ in_both DisplayRectAlignment c.args.a.now c.args.b.now (c.divides_size-display_rect_alignment.ensures.0 c.if-not-display_rect_alignment.false).width (c.divides_size-display_rect_alignment.ensures.0 c.if-not-display_rect_alignment.false).height
  | RequiredMinSize ↦ in_both RequiredMinSize c.args.a.now c.args.b.now (c.is_size_up_to-required_min_size.ensures.0 c.if-not-required_min_size.false).width (c.is_size_up_to-required_min_size.ensures.0 c.if-not-required_min_size.false).height
  | RequiredMaxSize ↦ in_both RequiredMaxSize c.args.a.now c.args.b.now (c.is_size_up_to-required_max_size.ensures.0 c.if-not-required_max_size.false).width (c.is_size_up_to-required_max_size.ensures.0 c.if-not-required_max_size.false).height
  | MaxWidthTimesHeight ↦ λ _. c.is_large_up_to-max_width_times_height.ensures.0 c.if-not-max_width_times_height.false
]
