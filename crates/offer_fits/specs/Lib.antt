pub mod Demands
pub mod Fit
pub mod OfferLines
pub mod Offers
pub mod Sizes
pub mod Sound
