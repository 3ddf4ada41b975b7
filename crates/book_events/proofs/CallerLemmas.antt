-- What callers need of marks that are set one after the other.
pub use Rattle.book_events.proofs.Marks.{AreSet, set_none, none_of, set_more, set_all, past_end}
