-- There are lines of domains so far.
use Rattle.std.specs.String.{string_bytes}
use Rattle.script_threads.specs.Text.{AreLines}
use Rattle.script_threads.proofs.domains.lines_of.Given as goal

abbrev pub invariant-loop-root : goal.invariant-loop-root
invariant-loop-root l = AreLines l.is_starved (string_bytes l.text)
