-- What was told, with the steps that are left, is the whole text.
use Rattle.std.proofs.Common.{◌≡◌, ◌++◌, List, ℕ, drop}
use Rattle.certificate_text.specs.Paths.{steps_text}
use Rattle.certificate_pieces.specs.Telling.{Tells}
use Rattle.certificate_pieces.proofs.path.put_steps.Given as goal

abbrev pub invariant-loop-ordinal : goal.invariant-loop-ordinal
invariant-loop-ordinal g l = record {
  told : List ℕ;
  has : Tells (g.P.Sink.contents l.fn.sink) (g.P.Sink.failures l.fn.sink) l.fn.out (g.P.Sink.contents l.sink) (g.P.Sink.failures l.sink) l.out told;
  whole : told ++ steps_text (drop l.ordinal-index l.ordinals) ≡ steps_text l.ordinals;
}
