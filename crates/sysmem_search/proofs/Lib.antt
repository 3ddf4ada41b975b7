pub mod Decided
pub mod Cut
pub mod Refuted
pub mod Proved
pub mod Sharing
