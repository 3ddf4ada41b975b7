-- What callers need of what members ask, and of whether settings meet it.
pub use Rattle.sysmem_proof.proofs.Meeting.{meets_in_order}
pub use Rattle.sysmem_proof.proofs.Shown.{asked_of_settled}
