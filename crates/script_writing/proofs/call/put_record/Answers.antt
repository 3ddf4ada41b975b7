-- The text of a plain record is read as the record.
use Rattle.serde_json.specs.View.{view}
use Rattle.std.specs.String.{string_bytes}
use Rattle.script_writing.proofs.Growing.{on_ok}
use Rattle.script_writing.proofs.Spelled.{spelled}
use Rattle.script_writing.proofs.call.put_record.Goals as goal

pub returns-clause-spelled : goal.returns-clause-spelled
returns-clause-spelled c =
    on_ok c.push_str.result
    (spelled (view c.args.value.now) (string_bytes c.in_ok-written.written) (record { whole = c.requires.whole; shallow = c.requires.shallow }) c.in_ok-written.ensures.order c.in_ok-written.ensures.reads_back)
