pub mod Checked
pub mod CheckedFile
pub mod Laws
pub mod Headline
