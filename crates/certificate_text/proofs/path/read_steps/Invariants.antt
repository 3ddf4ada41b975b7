-- The ordinals so far, with what is left, are all of them.
use Rattle.std.proofs.Common.{◌≡◌, ◌++◌, None, drop, option_map}
use Rattle.certificate_text.specs.Paths.{steps_said}
use Rattle.certificate_text.proofs.path.read_steps.Given as goal

abbrev pub invariant-loop-byte : goal.invariant-loop-byte
invariant-loop-byte l = option_map (λ rest. l.ordinals.items ++ rest) (steps_said l.ordinal (drop l.byte-index l.bytes)) ≡ steps_said None l.bytes
