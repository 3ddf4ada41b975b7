pub mod Laws
pub mod Ranges
pub mod Records
pub mod Sparse
