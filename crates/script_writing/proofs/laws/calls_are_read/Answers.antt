use Rattle.script_writing.proofs.Reading.{form_read}
use Rattle.script_writing.proofs.laws.calls_are_read.Goals as goal

pub returns : goal.returns
returns c = form_read
