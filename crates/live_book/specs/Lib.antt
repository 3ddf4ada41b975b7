pub mod Acting
pub mod Checked
pub mod Collection
pub mod Decision
pub mod Eager
pub mod Naming
pub mod Quota
pub mod Snapshot
