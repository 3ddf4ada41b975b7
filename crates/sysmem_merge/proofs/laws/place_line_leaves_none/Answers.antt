use Rattle.sysmem_merge.proofs.OneLine.{place_line}
use Rattle.sysmem_merge.proofs.laws.place_line_leaves_none.Goals as goal

pub returns : goal.returns
returns c = place_line
