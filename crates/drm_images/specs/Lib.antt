pub mod Codes
pub mod Planes
