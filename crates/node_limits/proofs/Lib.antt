mod Answering
mod Below
mod Bounding
mod Fewer
mod Growing
mod TreeRefusing
mod Within
pub mod CallerLemmas
