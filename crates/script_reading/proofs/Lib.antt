pub mod ApartLemmas
pub mod CallerLemmas
pub mod CallsLemmas
pub mod Members
pub mod TextsLemmas
