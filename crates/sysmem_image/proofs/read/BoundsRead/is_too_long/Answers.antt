use Rattle.std.proofs.Common.{refl}
use Rattle.sysmem_image.proofs.KeptLines.{row_line, test_of}
use Rattle.sysmem_image.proofs.read.BoundsRead.is_too_long.Goals as goal

pub returns-in-Some-least_row : goal.returns-in-Some-least_row
returns-in-Some-least_row c = λ es read.
    let o = c.args.offer.now in
    let sides = c.in-Some.ensures.least o es read in
    test_of c.from.result c.in-Some-least_row.row c.args.self.now.max_bytes_per_row c.in-Some-least_row.row c.from.ensures refl
    (row_line o es c.args.self.now c.in-Some.width c.in-Some.field-0-1 c.in-Some-least_row.row read sides (c.in-Some-least_row.ensures.least es c.in-Some.field-0-1 read sides)
    (c.in-Some.ensures.some o es read) (c.in-Some-least_row.ensures.some es read))
