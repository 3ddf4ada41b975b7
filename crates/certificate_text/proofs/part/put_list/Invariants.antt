-- What is written, with what is left, is the whole list.
use Rattle.std.proofs.Common.{◌≡◌, ◌++◌, drop, map}
use Rattle.json.specs.Tree.{items_tokens}
use Rattle.serde_json.specs.View.{items_of}
use Rattle.serde_json.specs.Written.{items_outline}
use Rattle.certificate_text.specs.Certificate.{tokens_of}
use Rattle.certificate_text.specs.Told.{list_data}
use Rattle.certificate_text.proofs.part.put_list.Given as goal

abbrev pub invariant-loop-part : goal.invariant-loop-part
invariant-loop-part g l = record {
  before : l.out.before ≡ l.fn.out.before;
  whole : l.out.tokens ++ items_tokens (items_outline (items_of (map g.T.Put.told (drop l.part-index l.parts)))) ≡ l.fn.out.tokens ++ tokens_of (list_data g.T.Put.told l.parts);
}
