pub mod Stating
pub mod Promises
