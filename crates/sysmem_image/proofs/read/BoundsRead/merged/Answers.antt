use Rattle.std.proofs.Common.{refl}
use Rattle.std.specs.Option.{option_map}
use Rattle.sysmem_counts.specs.declared.field.Field.TheVariants as line
use Rattle.sysmem_image.specs.Fields.{SizeAlignment, BytesPerRowDivisor, StartOffsetDivisor, DisplayRectAlignment}
use Rattle.sysmem_image.specs.Read.{IsRead, size_in, number_in}
use Rattle.sysmem_image.proofs.KeptMerged.{merged_of}
use Rattle.sysmem_image.proofs.read.BoundsRead.merged.Goals as goal

pub returns-in_err-size_alignment-clause-none : goal.returns-in_err-size_alignment-clause-none
returns-in_err-size_alignment-clause-none c = λ o es read.
    let lost : IsRead SizeAlignment o es (option_map size_in c.args.self.now.size_alignment) = read.each SizeAlignment in
    rw c.from_residual.ensures (line.SizeAlignment, rw c.in_err-size_alignment.was at lost)

pub returns-in_err-bytes_per_row_divisor-clause-none : goal.returns-in_err-bytes_per_row_divisor-clause-none
returns-in_err-bytes_per_row_divisor-clause-none c = λ o es read.
    let lost : IsRead BytesPerRowDivisor o es (option_map number_in c.args.self.now.bytes_per_row_divisor) = read.each BytesPerRowDivisor in
    rw c.from_residual-in_err-bytes_per_row_divisor.ensures (line.BytesPerRowDivisor, rw c.in_err-bytes_per_row_divisor.was at lost)

pub returns-in_err-start_offset_divisor-clause-none : goal.returns-in_err-start_offset_divisor-clause-none
returns-in_err-start_offset_divisor-clause-none c = λ o es read.
    let lost : IsRead StartOffsetDivisor o es (option_map number_in c.args.self.now.start_offset_divisor) = read.each StartOffsetDivisor in
    rw c.from_residual-in_err-start_offset_divisor.ensures (line.StartOffsetDivisor, rw c.in_err-start_offset_divisor.was at lost)

pub returns-in_err-display_rect_alignment-clause-none : goal.returns-in_err-display_rect_alignment-clause-none
returns-in_err-display_rect_alignment-clause-none c = λ o es read.
    let lost : IsRead DisplayRectAlignment o es (option_map size_in c.args.self.now.display_rect_alignment) = read.each DisplayRectAlignment in
    rw c.from_residual-in_err-display_rect_alignment.ensures (line.DisplayRectAlignment, rw c.in_err-display_rect_alignment.was at lost)

pub returns-clause-merged : goal.returns-clause-merged
returns-clause-merged c =
    merged_of c.args.self.now _ c.in_ok-size_alignment.was c.in_ok-bytes_per_row_divisor.was c.in_ok-start_offset_divisor.was c.in_ok-display_rect_alignment.was refl refl refl refl refl refl refl
