-- What was told, with the paths that are left, is the whole list.
use Rattle.std.proofs.Common.{◌≡◌, ◌++◌, List, ℕ, map}
use Rattle.serde_json.specs.View.{items_of}
use Rattle.serde_json.specs.Written.{compact_text, items_text}
use Rattle.certificate_text.specs.Told.{path_data, paths_data}
use Rattle.certificate_pieces.specs.Telling.{Tells}
use Rattle.certificate_pieces.proofs.path.put_paths.Given as goal

abbrev pub invariant-loop-path : goal.invariant-loop-path
invariant-loop-path g l = record {
  told : List ℕ;
  has : Tells (g.P.Sink.contents l.fn.sink) (g.P.Sink.failures l.fn.sink) l.fn.out (g.P.Sink.contents l.sink) (g.P.Sink.failures l.sink) l.out told;
  whole : told ++ items_text l.later (items_of (map path_data l.path-iterator)) ≡ compact_text (paths_data l.paths);
}
