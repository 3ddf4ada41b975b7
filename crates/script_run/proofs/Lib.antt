pub mod BothLemmas
pub mod CallerLemmas
pub mod OneCertified
pub mod RunLemmas
pub mod Spelling
