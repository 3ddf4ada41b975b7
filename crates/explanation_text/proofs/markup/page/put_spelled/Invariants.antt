-- The characters so far are put.
use Rattle.std.specs.Prelude.{◌≡◌, ◌++◌}
use Rattle.std.specs.String.{string_bytes}
use Rattle.explanation_text.specs.Spelled.{spelled}
use Rattle.explanation_text.proofs.markup.page.put_spelled.Given as goal

abbrev pub invariant-loop-c : goal.invariant-loop-c
invariant-loop-c l = string_bytes l.text ≡ string_bytes l.initial.text ++ spelled l.yielded
