-- The calls so far, and then those that are left, stand for all calls.
use Rattle.std.proofs.Common.{◌≡◌, ◌+◌, map, drop}
use Rattle.serde_json.specs.View.{items_view}
use Rattle.script_reading.specs.Known.{known_seen}
use Rattle.script_reading.specs.Script.{calls_from}
use Rattle.script_reading.specs.Seen.{call_seen}
use Rattle.script_reading.proofs.CallsLemmas.{with_front}
use Rattle.script_reading.proofs.calls.read_with.Given as goal

abbrev pub invariant-loop-index : goal.invariant-loop-index
invariant-loop-index l =
    with_front (map call_seen l.calls.items) (calls_from (l.index + 1) (known_seen l.known) (items_view (drop l.index l.values)))
    ≡ calls_from 1 (known_seen l.fn.known) (items_view l.values)
