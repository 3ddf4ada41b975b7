use Rattle.sysmem_merge.proofs.SomeMet.{some_met}
use Rattle.sysmem_merge.proofs.laws.some_are_met.Goals as goal

pub returns : goal.returns
returns c = some_met
