pub mod CallerLemmas
pub mod OneLine
pub mod Spelled
pub mod ToldLemmas
