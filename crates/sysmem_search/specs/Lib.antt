pub mod Cut
pub mod Refuting
pub mod Wide
