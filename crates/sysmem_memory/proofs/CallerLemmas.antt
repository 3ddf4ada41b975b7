-- What the proofs of other crates use of places.
pub use Rattle.sysmem_memory.proofs.FirstRefusing.{none_refuses}
pub use Rattle.sysmem_memory.proofs.LawProofs.{earlier_is_transitive, no_place_before_itself, places_are_in_one_order, same_heap_is_equal}
pub use Rattle.sysmem_memory.proofs.ListedPlaces.{listed_in_order, listed_is_place, stands_before}
