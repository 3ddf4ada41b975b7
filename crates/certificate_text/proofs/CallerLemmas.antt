-- What callers need of the texts of certificates: which parts need no escape, and the parts of a line's
-- and of a conflict's text, one after the other.
pub use Rattle.certificate_text.proofs.LineText.{count_plain, fixed_plain, line_middle, named_put, split_put}
pub use Rattle.certificate_text.proofs.NamesRead.{field_plain}
pub use Rattle.certificate_text.proofs.Plain.{path_plain}
