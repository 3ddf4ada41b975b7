-- Choices, prefixes and selections of a forest.
pub mod ChoiceLaws
pub mod Chosen
pub mod Listed
pub mod Onward
pub mod Prefixes
pub mod Selections
pub mod Shrinking
