pub mod Drafts
pub mod Edited
pub mod EditedBounds
pub mod EditedNumbers
pub mod EditedRecords
pub mod Reached
