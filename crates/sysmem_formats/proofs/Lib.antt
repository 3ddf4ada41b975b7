pub mod Lists
pub mod Places
