-- Forests and shapes of domains.
pub mod Apart
pub mod Few
pub mod Labelled
pub mod Levels
pub mod Linking
pub mod Numbers
pub mod Once
pub mod SameForest
