pub mod Certificate
pub mod Endings
pub mod Faults
pub mod Run
