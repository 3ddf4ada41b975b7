-- Those of the lines so far that are true.
use Rattle.std.proofs.Common.{take}
use Rattle.settings_reasons.specs.True.{AreLines}
use Rattle.value_sources.specs.Sources.{all_asked}
use Rattle.settings_reasons.proofs.offer_reason.true_lines.Given as goal

abbrev pub invariant-loop-field : goal.invariant-loop-field
invariant-loop-field l = AreLines l.offer l.whole (all_asked l.participants) (take l.field-index l.fields) l.reasons.items
