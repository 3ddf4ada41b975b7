pub mod Asked
pub mod CallerLemmas
pub mod Fits
pub mod Tighter
