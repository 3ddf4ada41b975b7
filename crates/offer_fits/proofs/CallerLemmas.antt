-- What callers need of the bounds that participants ask, and of fits that keep to them.
pub use Rattle.offer_fits.proofs.Asked.{bounds_asked_push, asked_all, asked_each}
pub use Rattle.offer_fits.proofs.Tighter.{tighter_asked}
