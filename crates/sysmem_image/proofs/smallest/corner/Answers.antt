use Rattle.sysmem_image.proofs.Readings.{first_line_of}
use Rattle.sysmem_image.proofs.smallest.corner.Goals as goal

pub returns-clause-line : goal.returns-clause-line
returns-clause-line c = λ es old. first_line_of c.corner_of.result c.args.offer.now es c.args.bounds.now c.corner_of.ensures.none c.corner_of.ensures.earlier old
