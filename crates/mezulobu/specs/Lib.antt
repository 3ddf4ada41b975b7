pub mod Ends
pub mod Explains
pub mod Negotiated
pub mod RecordFaults
pub mod Says
pub mod Words
