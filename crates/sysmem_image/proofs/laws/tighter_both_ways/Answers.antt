use Rattle.sysmem_image.proofs.Meets.{tighter_both}
use Rattle.sysmem_image.proofs.laws.tighter_both_ways.Goals as goal

pub returns : goal.returns
returns c = tighter_both
