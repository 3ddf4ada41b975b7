-- What callers need of scripts that are written.
pub use Rattle.script_writing.proofs.Plain.{plain_participant}
pub use Rattle.script_writing.proofs.Reading.{call_read, script_is}
