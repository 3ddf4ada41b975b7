-- What was told, with the parts that are left, is the whole list.
use Rattle.std.proofs.Common.{◌≡◌, ◌++◌, List, ℕ, drop, map}
use Rattle.certificate_pieces.specs.Telling.{Tells}
use Rattle.certificate_pieces.specs.Texts.{joined, list_text}
use Rattle.certificate_pieces.proofs.list.put_list.Given as goal

abbrev pub invariant-loop-part : goal.invariant-loop-part
invariant-loop-part g l = record {
  told : List ℕ;
  has : Tells (g.P.Sink.contents l.fn.sink) (g.P.Sink.failures l.fn.sink) l.fn.out (g.P.Sink.contents l.sink) (g.P.Sink.failures l.sink) l.out told;
  whole : told ++ joined l.later (map g.T.Tell.text (drop l.part-index l.parts)) ≡ list_text (map g.T.Tell.text l.parts);
}
