pub mod Spelling
pub mod Ending
mod Lines
mod Replying
