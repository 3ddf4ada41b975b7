use Rattle.sysmem_memory.proofs.LawProofs.{one_first_place, refused_by_all_is_no_place}
use Rattle.sysmem_memory.proofs.laws.one_first_place.Goals as goal

pub returns-clause-one : goal.returns-clause-one
returns-clause-one c = one_first_place

pub returns-clause-none : goal.returns-clause-none
returns-clause-none c = refused_by_all_is_no_place
