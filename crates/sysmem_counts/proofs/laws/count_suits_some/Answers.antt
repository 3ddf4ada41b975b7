use Rattle.sysmem_counts.proofs.Counts.{counted_some}
use Rattle.sysmem_counts.proofs.laws.count_suits_some.Goals as goal

pub returns : goal.returns
returns c = counted_some
