mod Bounds
mod Examples
mod Heaps
mod Members
mod Names
mod Participants
mod Platforms
mod Refusals
mod Steps
pub mod CallerLemmas
