use Rattle.sysmem_memory.proofs.LawProofs.{no_place_before_itself, earlier_is_transitive, places_are_in_one_order}
use Rattle.sysmem_memory.proofs.laws.places_are_ordered.Goals as goal

pub returns-clause-irreflexive : goal.returns-clause-irreflexive
returns-clause-irreflexive c = no_place_before_itself

pub returns-clause-transitive : goal.returns-clause-transitive
returns-clause-transitive c = earlier_is_transitive

pub returns-clause-total : goal.returns-clause-total
returns-clause-total c = places_are_in_one_order
