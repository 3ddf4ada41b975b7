pub mod CallerLemmas
pub mod Spaced
