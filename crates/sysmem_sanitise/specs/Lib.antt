pub use Rattle.negotiation_inputs.specs.Amiss
pub use Rattle.negotiation_inputs.specs.Equal
pub use Rattle.negotiation_inputs.specs.EqualLaws
pub use Rattle.negotiation_inputs.specs.Laws
pub use Rattle.negotiation_inputs.specs.Participant
pub use Rattle.negotiation_inputs.specs.Platform
