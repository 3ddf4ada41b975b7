pub mod CallerLemmas
pub mod Each
pub mod TakenInOrder
