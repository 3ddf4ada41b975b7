use Rattle.std.proofs.Common.{refl}
use Rattle.std.specs.Option.{option_map}
use Rattle.sysmem_image.specs.Fields.{SizeAlignment}
use Rattle.sysmem_image.specs.Read.{IsRead, size_in}
use Rattle.sysmem_image.proofs.KeptBounds.{sizes_meet}
use Rattle.sysmem_image.proofs.KeptLines.{sides_fit}
use Rattle.sysmem_image.proofs.read.BoundsRead.least_sides.Goals as goal

pub returns-in_err-alignment-clause-none : goal.returns-in_err-alignment-clause-none
returns-in_err-alignment-clause-none c = λ o es read.
    let lost : IsRead SizeAlignment o es (option_map size_in c.args.self.now.size_alignment) = read.each SizeAlignment in
    rw c.from_residual.ensures (rw c.in_err-alignment.was at lost)

pub returns-clause-least : goal.returns-clause-least
returns-clause-least c = λ o es read.
    let aligned : IsRead SizeAlignment o es (option_map size_in c.args.self.now.size_alignment) = read.each SizeAlignment in
    sides_fit o es c.args.self.now c.in_ok-alignment.alignment c.least_side-width.result c.least_side-height.result
    (rw c.in_ok-alignment.was at aligned) read c.least_side-width.ensures.least c.least_side-height.ensures.least

pub returns-clause-some : goal.returns-clause-some
returns-clause-some c = λ o es read. sizes_meet SizeAlignment refl o es c.args.self.now.size_alignment c.in_ok-alignment.alignment c.in_ok-alignment.was c.args.self.now.width_alignment_some c.args.self.now.height_alignment_some (read.in_range SizeAlignment) (read.each SizeAlignment)
