use Rattle.sysmem_image.proofs.Exact.{entries_intersection}
use Rattle.sysmem_image.proofs.laws.merge_is_intersection.Goals as goal

pub returns : goal.returns
returns c = entries_intersection
