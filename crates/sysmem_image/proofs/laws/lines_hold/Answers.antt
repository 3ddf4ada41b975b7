use Rattle.sysmem_image.proofs.Sound.{line_holds}
use Rattle.sysmem_image.proofs.laws.lines_hold.Goals as goal

pub returns : goal.returns
returns c = line_holds
