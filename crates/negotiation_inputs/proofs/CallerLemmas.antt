-- What callers need of the definitions of participants and platforms: that what `==` calls equal is
-- equal, and what the tests of usages, of pairs and of colour spaces tell.
pub use Rattle.negotiation_inputs.proofs.NoneTwice.{none_passes}
pub use Rattle.negotiation_inputs.proofs.Refused.{colour-told, misfit-told, pair-told, usage-by}
pub use Rattle.negotiation_inputs.proofs.Same.{same_pair, same_colour, same_bounds}
