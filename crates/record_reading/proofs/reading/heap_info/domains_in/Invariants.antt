use Rattle.std.proofs.Common.{◌≡◌, drop}
use Rattle.serde_json.specs.View.{items_view}
use Rattle.record_reading.specs.Reading.Fields.{read_each}
use Rattle.record_reading.specs.Reading.Heaps.{no_domains, with_named}
use Rattle.record_reading.proofs.reading.heap_info.domains_in.Given as goal

abbrev pub invariant-loop-value : goal.invariant-loop-value
invariant-loop-value l = read_each with_named l.domains (items_view (drop l.value-index l.list)) ≡ read_each with_named no_domains (items_view l.list)
