use Rattle.sysmem_merge.proofs.OneLine.{unnamed_line}
use Rattle.sysmem_merge.proofs.laws.unnamed_line_leaves_none.Goals as goal

pub returns : goal.returns
returns c = unnamed_line
