use Rattle.sysmem_memory.proofs.LawProofs.{true_line_leaves_no_place}
use Rattle.sysmem_memory.proofs.laws.a_true_line_leaves_no_place.Goals as goal

pub returns : goal.returns
returns c = true_line_leaves_no_place
