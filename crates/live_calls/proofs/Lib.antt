pub mod Endings
pub mod Frozen
pub mod GivenUp
pub mod OtherNumbers
pub mod Stated
pub mod Writable
pub mod Unread
