pub mod Telling
pub mod Texts
pub mod Keeping
pub mod KeptText
