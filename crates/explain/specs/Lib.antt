pub mod Lines
pub mod ObjectEndings
pub mod PageEndings
pub mod Wanted
