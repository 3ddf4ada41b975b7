use Rattle.sysmem_merge.proofs.OneBest.{one_fit}
use Rattle.sysmem_merge.proofs.laws.one_fit.Goals as goal

pub returns : goal.returns
returns c = one_fit
