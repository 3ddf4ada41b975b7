pub mod Domains
pub mod FirstRefusing
pub mod HeapSets
pub mod LawProofs
pub mod Joined
pub mod Left
pub mod ListedPlaces
pub mod CallerLemmas
