use Rattle.std.proofs.Common.{drop, []}
use Rattle.serde_json.specs.View.{items_view}
use Rattle.record_reading.proofs.Refusals.{IsRest}
use Rattle.record_reading.proofs.reading.list.list_in.Given as goal

abbrev pub invariant-loop-value : goal.invariant-loop-value
invariant-loop-value g l = IsRest g.T.Listed.added [] l.items.items (items_view l.list) (items_view (drop l.value-index l.list))
