use Rattle.sysmem_image.specs.Fields.{MinSize, MaxSize, SizeAlignment, MinBytesPerRow, MaxBytesPerRow, BytesPerRowDivisor, StartOffsetDivisor, DisplayRectAlignment, RequiredMinSize, RequiredMaxSize, MaxWidthTimesHeight, Width, Height}
use Rattle.sysmem_image.proofs.Meets.{in_both, named_test}
use Rattle.sysmem_image.proofs.keeping.keeps_in.Goals as goal

pub returns-in-MinSize : goal.returns-in-MinSize
returns-in-MinSize c = named_test c.args.field MinSize c.args.a.now c.args.b.now c.is_size_up_to.result c.in-MinSize.is
    (λ t. in_both MinSize c.args.a.now c.args.b.now (c.is_size_up_to.ensures.0 t).width (c.is_size_up_to.ensures.0 t).height) (λ kept. c.is_size_up_to.ensures.1 (record { width = kept Width; height = kept Height }))

pub returns-in-MaxSize : goal.returns-in-MaxSize
returns-in-MaxSize c = named_test c.args.field MaxSize c.args.a.now c.args.b.now c.is_size_up_to-in-MaxSize.result c.in-MaxSize.is
    (λ t. in_both MaxSize c.args.a.now c.args.b.now (c.is_size_up_to-in-MaxSize.ensures.0 t).width (c.is_size_up_to-in-MaxSize.ensures.0 t).height) (λ kept. c.is_size_up_to-in-MaxSize.ensures.1 (record { width = kept Width; height = kept Height }))

pub returns-in-SizeAlignment : goal.returns-in-SizeAlignment
returns-in-SizeAlignment c = named_test c.args.field SizeAlignment c.args.a.now c.args.b.now c.divides_size.result c.in-SizeAlignment.is
    (λ t. in_both SizeAlignment c.args.a.now c.args.b.now (c.divides_size.ensures.0 t).width (c.divides_size.ensures.0 t).height) (λ kept. c.divides_size.ensures.1 (record { width = kept Width; height = kept Height }))

pub returns-in-MinBytesPerRow : goal.returns-in-MinBytesPerRow
returns-in-MinBytesPerRow c = named_test c.args.field MinBytesPerRow c.args.a.now c.args.b.now c.is_up_to.result c.in-MinBytesPerRow.is
    (λ t _. c.is_up_to.ensures.0 t) (λ kept. c.is_up_to.ensures.1 (kept Width))

pub returns-in-MaxBytesPerRow : goal.returns-in-MaxBytesPerRow
returns-in-MaxBytesPerRow c = named_test c.args.field MaxBytesPerRow c.args.a.now c.args.b.now c.is_up_to-in-MaxBytesPerRow.result c.in-MaxBytesPerRow.is
    (λ t _. c.is_up_to-in-MaxBytesPerRow.ensures.0 t) (λ kept. c.is_up_to-in-MaxBytesPerRow.ensures.1 (kept Width))

pub returns-in-BytesPerRowDivisor : goal.returns-in-BytesPerRowDivisor
returns-in-BytesPerRowDivisor c = named_test c.args.field BytesPerRowDivisor c.args.a.now c.args.b.now c.divides.result c.in-BytesPerRowDivisor.is
    (λ t _. c.divides.ensures.0 t) (λ kept. c.divides.ensures.1 (kept Width))

pub returns-in-StartOffsetDivisor : goal.returns-in-StartOffsetDivisor
returns-in-StartOffsetDivisor c = named_test c.args.field StartOffsetDivisor c.args.a.now c.args.b.now c.divides-in-StartOffsetDivisor.result c.in-StartOffsetDivisor.is
    (λ t _. c.divides-in-StartOffsetDivisor.ensures.0 t) (λ kept. c.divides-in-StartOffsetDivisor.ensures.1 (kept Width))

pub returns-in-DisplayRectAlignment : goal.returns-in-DisplayRectAlignment
returns-in-DisplayRectAlignment c = named_test c.args.field DisplayRectAlignment c.args.a.now c.args.b.now c.divides_size-in-DisplayRectAlignment.result c.in-DisplayRectAlignment.is
    (λ t. in_both DisplayRectAlignment c.args.a.now c.args.b.now (c.divides_size-in-DisplayRectAlignment.ensures.0 t).width (c.divides_size-in-DisplayRectAlignment.ensures.0 t).height) (λ kept. c.divides_size-in-DisplayRectAlignment.ensures.1 (record { width = kept Width; height = kept Height }))

pub returns-in-RequiredMinSize : goal.returns-in-RequiredMinSize
returns-in-RequiredMinSize c = named_test c.args.field RequiredMinSize c.args.a.now c.args.b.now c.is_size_up_to-in-RequiredMinSize.result c.in-RequiredMinSize.is
    (λ t. in_both RequiredMinSize c.args.a.now c.args.b.now (c.is_size_up_to-in-RequiredMinSize.ensures.0 t).width (c.is_size_up_to-in-RequiredMinSize.ensures.0 t).height) (λ kept. c.is_size_up_to-in-RequiredMinSize.ensures.1 (record { width = kept Width; height = kept Height }))

pub returns-in-RequiredMaxSize : goal.returns-in-RequiredMaxSize
returns-in-RequiredMaxSize c = named_test c.args.field RequiredMaxSize c.args.a.now c.args.b.now c.is_size_up_to-in-RequiredMaxSize.result c.in-RequiredMaxSize.is
    (λ t. in_both RequiredMaxSize c.args.a.now c.args.b.now (c.is_size_up_to-in-RequiredMaxSize.ensures.0 t).width (c.is_size_up_to-in-RequiredMaxSize.ensures.0 t).height) (λ kept. c.is_size_up_to-in-RequiredMaxSize.ensures.1 (record { width = kept Width; height = kept Height }))

pub returns-in-MaxWidthTimesHeight : goal.returns-in-MaxWidthTimesHeight
returns-in-MaxWidthTimesHeight c = named_test c.args.field MaxWidthTimesHeight c.args.a.now c.args.b.now c.is_large_up_to.result c.in-MaxWidthTimesHeight.is
    (λ t _. c.is_large_up_to.ensures.0 t) (λ kept. c.is_large_up_to.ensures.1 (kept Width))
