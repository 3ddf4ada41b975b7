-- The calls that were read so far are those before this one.
use Rattle.std.proofs.Common.{◌≡◌, map, take}
use Rattle.script_reading.specs.Seen.{call_seen}
use Rattle.script_reading.proofs.read_call.read_records.Given as goal

abbrev pub invariant-loop-call : goal.invariant-loop-call
invariant-loop-call l = map (λ one. call_seen one.call) l.all.items ≡ map call_seen (take l.call-index l.calls)
