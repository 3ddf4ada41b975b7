pub mod Copies
pub mod Eager
pub mod Parts
pub mod Quotas
pub mod Ruled
pub mod Settled
pub mod Still
