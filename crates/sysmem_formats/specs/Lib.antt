pub mod Formats
pub mod Names
pub mod Layout
pub mod Offers
pub mod Codes
