-- What the proofs of other crates use of counts.
pub use Rattle.sysmem_counts.proofs.Counts.{counted_some, line_of_some, line_sound, tally_in_order}
pub use Rattle.sysmem_counts.proofs.Lists.{greatest_within, within_greatest}
