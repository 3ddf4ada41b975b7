use Rattle.sysmem_merge.proofs.OneLine.{offer_line}
use Rattle.sysmem_merge.proofs.laws.offer_line_leaves_none.Goals as goal

pub returns : goal.returns
returns c = offer_line
