pub mod Marks
pub mod CallerLemmas
