use Rattle.std.proofs.Common.{drop}
use Rattle.serde_json.specs.View.{items_view}
use Rattle.record_reading.specs.Reading.Entries.{with_further}
use Rattle.record_reading.proofs.Refusals.{IsRest}
use Rattle.record_reading.proofs.reading.asked.further_in.Given as goal

abbrev pub invariant-loop-value : goal.invariant-loop-value
invariant-loop-value l = IsRest (λ lack. with_further lack l.entries) l.fn.pairs.items l.pairs.items (items_view l.list) (items_view (drop l.value-index l.list))
