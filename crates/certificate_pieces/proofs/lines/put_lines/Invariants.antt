-- What was told, with the lines that are left, is the whole list. If a text is there, it is that of the next line.
use Rattle.std.proofs.Common.{◌≡◌, ◌++◌, ◌≤◌, List, ℕ, true, drop, map, nat_lt, slice_get, Some}
use Rattle.serde_json.specs.View.{items_of}
use Rattle.serde_json.specs.Written.{compact_text, items_text}
use Rattle.verdict_claims.specs.Line.{LineFacts}
use Rattle.certificate_text.specs.Told.{line_data, lines_data}
use Rattle.certificate_pieces.specs.KeptText.{kept_text}
use Rattle.certificate_pieces.specs.Telling.{Tells}
use Rattle.certificate_pieces.proofs.OneLine.{KeepsOne}
use Rattle.certificate_pieces.proofs.lines.put_lines.Given as goal

abbrev pub invariant-loop-place : goal.invariant-loop-place
invariant-loop-place g l = record {
  next : l.next ≤ l.place;
  next_shared : l.next_shared ≤ l.place;
  there : (line : LineFacts) → slice_get l.lines l.place ≡ Some line → l.is_there ≡ true → kept_text l.kept line ≡ compact_text (line_data line);
  one : KeepsOne l.lines l.kept;
  told : List ℕ;
  has : Tells (g.P.Sink.contents l.fn.sink) (g.P.Sink.failures l.fn.sink) l.fn.out (g.P.Sink.contents l.sink) (g.P.Sink.failures l.sink) l.out told;
  whole : told ++ items_text (nat_lt 0 l.place) (items_of (map line_data (drop l.place l.lines))) ≡ compact_text (lines_data l.lines);
}
