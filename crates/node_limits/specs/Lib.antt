pub mod Laws
pub mod Limits
pub mod TreeRefusals
