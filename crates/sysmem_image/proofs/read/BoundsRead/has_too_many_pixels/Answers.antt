use Rattle.std.proofs.Common.{◌≡◌, ◌*◌, refl}
use Rattle.sysmem_image.proofs.KeptLines.{area_line, test_of}
use Rattle.sysmem_image.proofs.read.BoundsRead.has_too_many_pixels.Goals as goal

pub returns-in-Some : goal.returns-in-Some
returns-in-Some c = λ o es read.
    let w = c.in-Some.width in
    let h = c.in-Some.height in
    let product : c.from.result * c.from-in-Some.result ≡ c.in-Some.width * c.in-Some.height = rw (c.from.ensures, c.from-in-Some.ensures) refl in
    test_of c.from-in-Some-2.result (c.from.result * c.from-in-Some.result) c.args.self.now.max_width_times_height (w * h) c.from-in-Some-2.ensures product
    (area_line o es c.args.self.now w h read (c.in-Some.ensures.least o es read) (c.in-Some.ensures.some o es read))
