use Rattle.std.specs.String.{string_bytes}
use Rattle.script_threads.proofs.playing.with_audit.Goals as goal

pub returns : goal.returns
returns c = record { lines = string_bytes c.args.lines.text; audit = c.args.audit; are_lines = c.requires; put = c.in_ok-put_audit.ensures }
