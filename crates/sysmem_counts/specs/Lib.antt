pub mod Bounds
pub mod Counts
pub mod Families
pub mod Field
pub mod Laws
pub mod Tally
pub mod Usage
