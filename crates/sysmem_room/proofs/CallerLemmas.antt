-- What callers need of a history's actions on a node.
pub use Rattle.sysmem_room.proofs.Reading.{log_cons}
