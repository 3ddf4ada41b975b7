use Rattle.std.proofs.Common.{refl}
use Rattle.std.specs.Option.{option_map}
use Rattle.sysmem_image.specs.Fields.{BytesPerRowDivisor}
use Rattle.sysmem_image.specs.Read.{IsRead, number_in}
use Rattle.sysmem_image.proofs.KeptBounds.{number_meets}
use Rattle.sysmem_image.proofs.KeptLines.{row_fits}
use Rattle.sysmem_image.proofs.read.BoundsRead.least_row.Goals as goal

pub returns-in_err-divisor-clause-none : goal.returns-in_err-divisor-clause-none
returns-in_err-divisor-clause-none c = λ es read.
    let lost : IsRead BytesPerRowDivisor c.args.offer.now es (option_map number_in c.args.self.now.bytes_per_row_divisor) = read.each BytesPerRowDivisor in
    rw c.from_residual.ensures (rw c.in_err-divisor.was at lost)

pub returns-clause-least : goal.returns-clause-least
returns-clause-least c = λ es h read sides.
    let divided : IsRead BytesPerRowDivisor c.args.offer.now es (option_map number_in c.args.self.now.bytes_per_row_divisor) = read.each BytesPerRowDivisor in
    row_fits c.args.offer.now es c.args.self.now c.in_ok-divisor.divisor c.args.width h c.least_above.result
    (rw c.in_ok-divisor.was at divided) read sides (rw c.wide_row_bytes.ensures.value at c.least_above.ensures.least)

pub returns-clause-some : goal.returns-clause-some
returns-clause-some c = λ es read. number_meets BytesPerRowDivisor refl c.args.offer.now es c.args.self.now.bytes_per_row_divisor c.in_ok-divisor.divisor c.in_ok-divisor.was c.args.self.now.row_divisor_some (read.in_range BytesPerRowDivisor) (read.each BytesPerRowDivisor)
