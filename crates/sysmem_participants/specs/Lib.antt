pub mod Held
pub mod Told
pub mod Audit
pub mod Laws
