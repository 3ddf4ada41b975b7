use Rattle.std.proofs.Common.{◌≡◌, drop}
use Rattle.serde_json.specs.View.{items_view}
use Rattle.record_reading.specs.Reading.Constraints.{no_usage, with_family}
use Rattle.record_reading.specs.Reading.Fields.{read_each}
use Rattle.record_reading.proofs.reading.usage.families_of.Given as goal

abbrev pub invariant-loop-value : goal.invariant-loop-value
invariant-loop-value l = read_each with_family l.usage (items_view (drop l.value-index l.list)) ≡ read_each with_family no_usage (items_view l.list)
