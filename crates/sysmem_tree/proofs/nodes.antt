-- Lists of nodes, and paths to nodes.
pub mod Alike
pub mod Different
pub mod Kids
pub mod Leading
pub mod PathsUp
pub mod Places
pub mod Ways
pub mod Writes
