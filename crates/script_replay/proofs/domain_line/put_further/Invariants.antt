-- The text so far, with the numbers that are left, is the whole text.
use Rattle.std.proofs.Common.{◌≡◌, ◌++◌, codes, drop}
use Rattle.std.specs.String.{string_bytes}
use Rattle.script_replay.specs.Lines.{marked}
use Rattle.script_replay.proofs.domain_line.put_further.Given as goal

abbrev pub invariant-loop-choice : goal.invariant-loop-choice
invariant-loop-choice l = string_bytes l.text ++ marked (codes ".") (drop l.choice-index l.choices) ≡ string_bytes l.fn.text ++ marked (codes ".") l.choices
