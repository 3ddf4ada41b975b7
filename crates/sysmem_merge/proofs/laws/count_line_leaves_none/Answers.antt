use Rattle.sysmem_merge.proofs.OneLine.{count_line}
use Rattle.sysmem_merge.proofs.laws.count_line_leaves_none.Goals as goal

pub returns : goal.returns
returns c = count_line
