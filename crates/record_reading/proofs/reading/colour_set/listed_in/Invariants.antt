use Rattle.std.proofs.Common.{◌≡◌, drop}
use Rattle.serde_json.specs.View.{items_view}
use Rattle.sysmem_image.specs.Colours.{no_colours}
use Rattle.record_reading.specs.Reading.Entries.{with_listed}
use Rattle.record_reading.specs.Reading.Fields.{read_each}
use Rattle.record_reading.proofs.reading.colour_set.listed_in.Given as goal

abbrev pub invariant-loop-value : goal.invariant-loop-value
invariant-loop-value l = read_each with_listed l.set (items_view (drop l.value-index l.list)) ≡ read_each with_listed no_colours (items_view l.list)
