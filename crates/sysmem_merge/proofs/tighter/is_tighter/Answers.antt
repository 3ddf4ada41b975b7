use Rattle.sysmem_image.specs.Fields.{MinSize, MaxSize, SizeAlignment, MinBytesPerRow, MaxBytesPerRow, BytesPerRowDivisor, StartOffsetDivisor, DisplayRectAlignment, RequiredMinSize, RequiredMaxSize, MaxWidthTimesHeight, KeepsIn}
use Rattle.sysmem_merge.proofs.Covering.{in_both}
use Rattle.sysmem_merge.proofs.tighter.is_tighter.Goals as goal

pub returns : goal.returns
returns c seen = λ f. elim f as (λ f. KeepsIn f c.args.a.now c.args.b.now) [
  | MinSize ↦ in_both MinSize c.args.a.now c.args.b.now (c.is_size_up_to.ensures.0 c.if-not-is_size_up_to.false).width (c.is_size_up_to.ensures.0 c.if-not-is_size_up_to.false).height
  | MaxSize ↦ in_both MaxSize c.args.a.now c.args.b.now (c.is_size_up_to-2.ensures.0 c.if-not-is_size_up_to-2.false).width (c.is_size_up_to-2.ensures.0 c.if-not-is_size_up_to-2.false).height
  | SizeAlignment ↦ in_both SizeAlignment c.args.a.now c.args.b.now (c.divides_size.ensures c.if-not-divides_size.false).width (c.divides_size.ensures c.if-not-divides_size.false).height
  | MinBytesPerRow ↦ λ _. c.is_up_to.ensures.0 c.if-not-is_up_to.false
  | MaxBytesPerRow ↦ λ _. c.is_up_to-2.ensures.0 c.if-not-is_up_to-2.false
  | BytesPerRowDivisor ↦ λ _. c.divides.ensures c.if-not-divides.false
  | StartOffsetDivisor ↦ λ _. c.divides-2.ensures c.if-not-divides-2.false
  | DisplayRectAlignment ↦ in_both DisplayRectAlignment c.args.a.now c.args.b.now (c.divides_size-2.ensures c.if-not-divides_size-2.false).width (c.divides_size-2.ensures c.if-not-divides_size-2.false).height
  | RequiredMinSize ↦ in_both RequiredMinSize c.args.a.now c.args.b.now (c.is_size_up_to-3.ensures.0 c.if-not-is_size_up_to-3.false).width (c.is_size_up_to-3.ensures.0 c.if-not-is_size_up_to-3.false).height
  | RequiredMaxSize ↦ in_both RequiredMaxSize c.args.a.now c.args.b.now (c.is_size_up_to-4.ensures.0 c.if-not-is_size_up_to-4.false).width (c.is_size_up_to-4.ensures.0 c.if-not-is_size_up_to-4.false).height
  | MaxWidthTimesHeight ↦ λ _. c.is_large_up_to.ensures.0 c.if-not-is_large_up_to.false
]
