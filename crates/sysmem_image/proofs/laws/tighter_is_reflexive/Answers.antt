use Rattle.sysmem_image.proofs.Meets.{tighter_refl}
use Rattle.sysmem_image.proofs.laws.tighter_is_reflexive.Goals as goal

pub returns : goal.returns
returns c = tighter_refl
