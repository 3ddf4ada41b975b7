pub mod Calls
pub mod Laws
pub mod Recurring
pub mod Refusing
pub mod Script
pub mod Texts
