-- What callers need of sound settings, of reasons, and of pairs that were looked at.
pub use Rattle.sysmem_merge.proofs.SoundSettings.{offered_test}
pub use Rattle.sysmem_merge.proofs.Reasons.{first_count}
pub use Rattle.sysmem_merge.proofs.Passed.{none_left}
