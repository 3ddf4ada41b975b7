-- The text so far, with the steps that are left, is the whole text.
use Rattle.std.proofs.Common.{◌≡◌, ◌++◌, drop}
use Rattle.certificate_text.specs.Paths.{steps_text}
use Rattle.certificate_text.proofs.text.push_steps.Given as goal

abbrev pub invariant-loop-ordinal : goal.invariant-loop-ordinal
invariant-loop-ordinal l = l.out.items ++ steps_text (drop l.ordinal-index l.ordinals) ≡ l.fn.out.items ++ steps_text l.ordinals
