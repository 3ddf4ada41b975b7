pub mod Call
pub mod Laws
pub mod Script
