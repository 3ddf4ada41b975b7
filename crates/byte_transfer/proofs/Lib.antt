pub mod KnownBytes
pub mod TransferLemmas
