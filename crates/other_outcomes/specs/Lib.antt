pub mod Exchanged
pub mod Moved
pub mod Shorter
pub mod Earlier
pub mod Released
pub mod Unstated
pub mod Ended
pub mod OtherPlatform
