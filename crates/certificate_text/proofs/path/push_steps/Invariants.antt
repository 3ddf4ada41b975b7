-- The text so far, with the steps that are left, is the whole text.
use Rattle.std.proofs.Common.{◌≡◌, ◌++◌, drop}
use Rattle.std.specs.String.{string_bytes}
use Rattle.certificate_text.specs.Paths.{steps_text}
use Rattle.certificate_text.proofs.path.push_steps.Given as goal

abbrev pub invariant-loop-ordinal : goal.invariant-loop-ordinal
invariant-loop-ordinal l = string_bytes l.text ++ steps_text (drop l.ordinal-index l.ordinals) ≡ string_bytes l.fn.text ++ steps_text l.ordinals
