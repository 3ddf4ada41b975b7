-- The reasons of the fields so far.
use Rattle.std.proofs.Common.{◌≡◌, filter_map, take}
use Rattle.settings_reasons.specs.True.{place_reason}
use Rattle.value_sources.specs.Sources.{all_asked}
use Rattle.settings_reasons.proofs.place_reason.place_reasons.Given as goal

abbrev pub invariant-loop-field : goal.invariant-loop-field
invariant-loop-field l = l.reasons.items ≡ filter_map (place_reason l.heap l.coherency (all_asked l.participants)) (take l.field-index l.field-items)
