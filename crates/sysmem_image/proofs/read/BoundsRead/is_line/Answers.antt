use Rattle.std.proofs.Common.{refl}
use Rattle.sysmem_image.specs.Fields as bound
use Rattle.sysmem_image.proofs.KeptBounds.{number_lacks, size_lacks}
use Rattle.sysmem_image.proofs.KeptLines.{required_line}
use Rattle.sysmem_image.proofs.read.BoundsRead.is_line.Goals as goal

pub returns-in-SizeAlignment : goal.returns-in-SizeAlignment
returns-in-SizeAlignment c = λ es read.
    let k = c.args.self.now in
    rw c.in-SizeAlignment.is (size_lacks bound.SizeAlignment refl c.args.offer.now es k.size_alignment c.is_none.result c.is_none.ensures k.width_alignment_some k.height_alignment_some (read.in_range bound.SizeAlignment) (read.each bound.SizeAlignment))

pub returns-in-DisplayRectAlignment : goal.returns-in-DisplayRectAlignment
returns-in-DisplayRectAlignment c = λ es read.
    let k = c.args.self.now in
    rw c.in-DisplayRectAlignment.is (size_lacks bound.DisplayRectAlignment refl c.args.offer.now es k.display_rect_alignment c.is_none-in-DisplayRectAlignment.result c.is_none-in-DisplayRectAlignment.ensures k.display_width_some k.display_height_some (read.in_range bound.DisplayRectAlignment) (read.each bound.DisplayRectAlignment))

pub returns-in-BytesPerRowDivisor : goal.returns-in-BytesPerRowDivisor
returns-in-BytesPerRowDivisor c = λ es read.
    let k = c.args.self.now in
    rw c.in-BytesPerRowDivisor.is (number_lacks bound.BytesPerRowDivisor refl c.args.offer.now es k.bytes_per_row_divisor c.is_none-in-BytesPerRowDivisor.result c.is_none-in-BytesPerRowDivisor.ensures k.row_divisor_some (read.in_range bound.BytesPerRowDivisor) (read.each bound.BytesPerRowDivisor))

pub returns-in-StartOffsetDivisor : goal.returns-in-StartOffsetDivisor
returns-in-StartOffsetDivisor c = λ es read.
    let k = c.args.self.now in
    rw c.in-StartOffsetDivisor.is (number_lacks bound.StartOffsetDivisor refl c.args.offer.now es k.start_offset_divisor c.is_none-in-StartOffsetDivisor.result c.is_none-in-StartOffsetDivisor.ensures k.start_divisor_some (read.in_range bound.StartOffsetDivisor) (read.each bound.StartOffsetDivisor))

pub returns-in-RequiredMinSize : goal.returns-in-RequiredMinSize
returns-in-RequiredMinSize c = λ es read. rw c.in-RequiredMinSize.is (required_line c.args.offer.now es c.args.self.now c.is_size_up_to.result c.is_size_up_to.ensures read)
