use Rattle.sysmem_counts.proofs.Counts.{line_of_some}
use Rattle.sysmem_counts.proofs.laws.count_line_leaves_no_count.Goals as goal

pub returns : goal.returns
returns c = line_of_some
