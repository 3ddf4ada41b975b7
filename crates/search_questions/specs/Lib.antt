pub mod Live
pub mod Visits
pub mod Question
pub mod Kept
pub mod Asking
pub mod Standing
pub mod Searching
