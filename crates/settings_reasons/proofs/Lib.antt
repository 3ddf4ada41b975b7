pub mod Misfits
pub mod Offers
pub mod Participants
