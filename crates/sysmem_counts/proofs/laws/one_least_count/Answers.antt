use Rattle.sysmem_counts.proofs.Counts.{one_least}
use Rattle.sysmem_counts.proofs.laws.one_least_count.Goals as goal

pub returns : goal.returns
returns c = one_least
