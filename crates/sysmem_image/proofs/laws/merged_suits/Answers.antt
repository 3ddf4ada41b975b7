use Rattle.sysmem_image.proofs.Exact.{merged_suits}
use Rattle.sysmem_image.proofs.laws.merged_suits.Goals as goal

pub returns : goal.returns
returns c = merged_suits
