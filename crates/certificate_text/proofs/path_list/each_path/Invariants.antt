-- The paths so far, with what is left, are all that is said.
use Rattle.std.proofs.Common.{◌≡◌, ◌++◌, drop, option_map}
use Rattle.serde_json.specs.View.{items_view}
use Rattle.certificate_text.specs.Reading.{each_said}
use Rattle.certificate_text.specs.Said.{node_said}
use Rattle.certificate_text.proofs.path_list.each_path.Given as goal

abbrev pub invariant-loop-value : goal.invariant-loop-value
invariant-loop-value l = option_map (λ rest. l.paths ++ rest) (each_said node_said (items_view (drop l.value-index l.values))) ≡ each_said node_said (items_view l.values)
