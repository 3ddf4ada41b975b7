mod NoneTwice
mod Refused
mod Same
pub mod CallerLemmas
