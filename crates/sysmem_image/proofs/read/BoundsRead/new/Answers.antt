use Rattle.std.proofs.Common.{[]}
use Rattle.sysmem_image.specs.Fields.{MinSize, MaxSize, SizeAlignment, MinBytesPerRow, MaxBytesPerRow, BytesPerRowDivisor, StartOffsetDivisor, DisplayRectAlignment, RequiredMinSize, RequiredMaxSize, MaxWidthTimesHeight, Width, Height}
use Rattle.sysmem_image.proofs.KeptBounds.{size_read, read_by}
use Rattle.sysmem_image.proofs.read.BoundsRead.new.Goals as goal

pub returns : goal.returns
returns c =
    let o = c.args.offer.now in
    let b = c.of-own.result in
    let own = c.of-own.ensures.merged in
    read_by o [] _
    (record { width = own.in_range MinSize Width; height = own.in_range MinSize Height })
    (record { width = own.in_range MaxSize Width; height = own.in_range MaxSize Height })
    (record { width = own.in_range SizeAlignment Width; height = own.in_range SizeAlignment Height })
    (own.in_range MinBytesPerRow Width)
    (own.in_range MaxBytesPerRow Width)
    (own.in_range BytesPerRowDivisor Width)
    (own.in_range StartOffsetDivisor Width)
    (record { width = own.in_range DisplayRectAlignment Width; height = own.in_range DisplayRectAlignment Height })
    (record { width = own.in_range RequiredMinSize Width; height = own.in_range RequiredMinSize Height })
    (record { width = own.in_range RequiredMaxSize Width; height = own.in_range RequiredMaxSize Height })
    (own.in_range MaxWidthTimesHeight Width)
    (size_read MinSize o [] b.min_size (own.each MinSize Width) (own.each MinSize Height))
    (size_read MaxSize o [] b.max_size (own.each MaxSize Width) (own.each MaxSize Height))
    (size_read SizeAlignment o [] b.size_alignment (own.each SizeAlignment Width) (own.each SizeAlignment Height))
    (own.each MinBytesPerRow)
    (own.each MaxBytesPerRow)
    (own.each BytesPerRowDivisor)
    (own.each StartOffsetDivisor)
    (size_read DisplayRectAlignment o [] b.display_rect_alignment (own.each DisplayRectAlignment Width) (own.each DisplayRectAlignment Height))
    (size_read RequiredMinSize o [] b.required_min_size (own.each RequiredMinSize Width) (own.each RequiredMinSize Height))
    (size_read RequiredMaxSize o [] b.required_max_size (own.each RequiredMaxSize Width) (own.each RequiredMaxSize Height))
    (own.each MaxWidthTimesHeight)
