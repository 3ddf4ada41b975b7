use Rattle.sysmem_merge.proofs.AnyOrder.{stands_in_order}
use Rattle.sysmem_merge.proofs.laws.stands_in_any_order.Goals as goal

pub returns : goal.returns
returns c = stands_in_order
