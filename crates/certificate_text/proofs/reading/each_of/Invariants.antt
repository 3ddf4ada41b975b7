-- The parts so far, with what is left, are all that is said.
use Rattle.std.proofs.Common.{◌≡◌, ◌++◌, drop, option_map}
use Rattle.serde_json.specs.View.{items_view}
use Rattle.certificate_text.specs.Reading.{each_said}
use Rattle.certificate_text.proofs.reading.each_of.Given as goal

abbrev pub invariant-loop-value : goal.invariant-loop-value
invariant-loop-value g l = option_map (λ rest. l.parts.items ++ rest) (each_said g.T.CertificatePart.said (items_view (drop l.value-index l.values))) ≡ each_said g.T.CertificatePart.said (items_view l.values)
