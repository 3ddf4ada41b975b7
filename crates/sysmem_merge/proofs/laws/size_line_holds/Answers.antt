use Rattle.sysmem_merge.proofs.Lines.{size_line_holds}
use Rattle.sysmem_merge.proofs.laws.size_line_holds.Goals as goal

pub returns : goal.returns
returns c = size_line_holds
