-- What several actions and decisions make of a tree.
pub mod Agreeing
pub mod Entries
pub mod Histories
pub mod Logs
pub mod Rows
pub mod Staying
