-- What is written, with the lines that are left, is the whole list. The line before is kept.
use Rattle.std.proofs.Common.{◌≡◌, ◌++◌, ◌≤◌, ℕ, suc, false, drop, map, nat_lt, slice_get, Some, IfSome}
use Rattle.serde_json.specs.View.{items_of}
use Rattle.serde_json.specs.Written.{items_text}
use Rattle.verdict_claims.specs.Line.{LineFacts}
use Rattle.certificate_text.specs.Out.{IsKept, IsTold}
use Rattle.certificate_text.specs.Told.{line_data}
use Rattle.certificate_text.proofs.text.push_line_items.Given as goal

abbrev pub invariant-loop-index : goal.invariant-loop-index
invariant-loop-index l = record {
  next : l.next ≤ l.index;
  few : IfSome l.few IsTold;
  many : IfSome l.many IsTold;
  last : (k : ℕ) (line : LineFacts) → l.index ≡ suc k → slice_get l.lines k ≡ Some line → IsKept l.few l.many line;
  whole : l.out.items ++ items_text (nat_lt 0 l.index) (items_of (map line_data (drop l.index l.lines))) ≡ l.fn.out.items ++ items_text false (items_of (map line_data l.lines));
}
