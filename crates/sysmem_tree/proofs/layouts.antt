-- Layouts of forests, and walks over them.
pub mod GroupWalks
pub mod LaidSame
pub mod Layouts
pub mod Marking
pub mod NextGroups
pub mod Picking
pub mod Settling
pub mod Shares
pub mod ToldMembers
pub mod Walked
pub mod Walks
