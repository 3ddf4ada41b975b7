use Rattle.sysmem_merge.proofs.SomeMet.{unmet_by_some}
use Rattle.sysmem_merge.proofs.laws.unmet_by_some.Goals as goal

pub returns : goal.returns
returns c = unmet_by_some
