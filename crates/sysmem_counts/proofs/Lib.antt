pub mod CallerLemmas
pub mod Lists
pub mod Counts
pub mod Fields
