pub mod Each
pub mod Some
