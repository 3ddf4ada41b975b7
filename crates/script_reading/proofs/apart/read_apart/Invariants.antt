-- The calls that are left, after those so far, stand for all calls.
use Rattle.std.proofs.Common.{◌≡◌, ◌+◌, [], map, drop}
use Rattle.serde_json.specs.View.{items_view}
use Rattle.script_reading.specs.Apart.{apart_from}
use Rattle.script_reading.specs.Known.{known_seen}
use Rattle.script_reading.specs.Seen.{call_seen}
use Rattle.script_reading.proofs.apart.read_apart.Given as goal

abbrev pub invariant-loop-index : goal.invariant-loop-index
invariant-loop-index l =
    apart_from (l.index + 1) (known_seen l.known) (map call_seen l.calls.items) (items_view (drop l.index l.values)) ≡ apart_from 1 (known_seen l.fn.known) [] (items_view l.values)
