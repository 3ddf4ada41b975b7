use Rattle.std.proofs.Common.{◌≡◌, drop}
use Rattle.serde_json.specs.View.{view}
use Rattle.explanation_text.specs.Places.{value_on}
use Rattle.explanation_text.proofs.places.path.value_at.Given as goal

abbrev pub invariant-loop-step : goal.invariant-loop-step
invariant-loop-step l =
    value_on (drop l.step-index l.path) (view l.at) ≡ value_on l.path (view l.value)
