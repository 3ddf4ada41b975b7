use Rattle.sysmem_image.proofs.Exact.{merged_exact}
use Rattle.sysmem_image.proofs.laws.merged_is_exact.Goals as goal

pub returns : goal.returns
returns c = merged_exact
