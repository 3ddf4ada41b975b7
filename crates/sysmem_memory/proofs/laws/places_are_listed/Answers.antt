use Rattle.sysmem_memory.proofs.ListedPlaces.{listed_is_place, listed_in_order}
use Rattle.sysmem_memory.proofs.laws.places_are_listed.Goals as goal

pub returns-clause-places : goal.returns-clause-places
returns-clause-places c = listed_is_place

pub returns-clause-order : goal.returns-clause-order
returns-clause-order c = listed_in_order
