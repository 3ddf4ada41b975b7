-- The calls so far are those that were read.
use Rattle.std.proofs.Common.{◌≡◌, map, take}
use Rattle.script_reading.specs.Seen.{call_seen}
use Rattle.script_reading.proofs.read_call.shared_calls.Given as goal

abbrev pub invariant-loop-one : goal.invariant-loop-one
invariant-loop-one l = map call_seen l.calls.items ≡ map (λ one. call_seen one.call) (take l.one-index l.read)
