use Rattle.sysmem_merge.proofs.AnyOrder.{sums_in_order}
use Rattle.sysmem_merge.proofs.laws.sums_in_any_order.Goals as goal

pub returns : goal.returns
returns c = sums_in_order
