pub mod CallerLemmas
pub mod Growing
pub mod Names
pub mod Plain
pub mod Reading
pub mod Spelled
pub mod Texts
