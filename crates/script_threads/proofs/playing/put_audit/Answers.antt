use Rattle.script_threads.proofs.playing.put_audit.Goals as goal

pub returns : goal.returns
returns c = c.writeln.ensures.bytes
