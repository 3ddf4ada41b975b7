-- What the records of a participant and of a platform say.
pub mod Bounds
pub mod Constraints
pub mod Entries
pub mod Fields
pub mod Heaps
pub mod Names
pub mod Pairs
pub mod Platform
pub use Constraints.{participant_of, participant_with}
pub use Platform.{platform_of, platform_with}
