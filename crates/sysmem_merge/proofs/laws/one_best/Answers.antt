use Rattle.sysmem_merge.proofs.OneBest.{one_best}
use Rattle.sysmem_merge.proofs.laws.one_best.Goals as goal

pub returns : goal.returns
returns c = one_best
