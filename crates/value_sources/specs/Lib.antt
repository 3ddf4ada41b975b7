pub mod Sources
pub mod Least
