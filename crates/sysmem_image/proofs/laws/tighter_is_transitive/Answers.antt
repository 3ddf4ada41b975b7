use Rattle.sysmem_image.proofs.Meets.{tighter_trans}
use Rattle.sysmem_image.proofs.laws.tighter_is_transitive.Goals as goal

pub returns : goal.returns
returns c = tighter_trans
