use Rattle.std.proofs.Common.{[], arith, replicate}
use Rattle.sysmem_image.specs.declared.first_matches.TheConstants.{SLOTS}
use Rattle.sysmem_image.proofs.Slots.{first_of_none, first_of_all}
use Rattle.sysmem_image.proofs.first_matches.FirstMatches.none.Goals as goal

pub invariant_of-result : goal.invariant_of-result
invariant_of-result c = first_of_all [] 0 (replicate SLOTS 0) (omega arith) (first_of_none [])
