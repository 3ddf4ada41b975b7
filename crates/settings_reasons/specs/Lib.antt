pub mod True
pub mod Held
pub mod Stated
