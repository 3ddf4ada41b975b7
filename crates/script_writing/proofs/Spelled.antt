-- The text of a record is read as the record, also inside of another one.
use Rattle.std.proofs.Common.{◌≡◌, ◌≤◌, ℕ, suc, max, List, [], ◌++◌, Some, option_and_then, refl, sym, ap, ap₂, ◌∙◌, subst, arith, append-nil}
use Rattle.json.specs.Json as json
use Rattle.json.specs.Lex.{tokens}
use Rattle.json.specs.Tree as tree
use Rattle.json.proofs.Numbered.{ArePrintableOrBad-tokens, value-HasNumbers}
use Rattle.json.proofs.Printed.Trees.{value-json_tokens}
use Rattle.serde_json.specs.Data.{Data, null, boolean, number, string, array, object, Items, no_items, item, Members, no_members, member, depth, items_depth, members_depth}
use Rattle.serde_json.specs.Read.{read, max_depth, of_json}
use Rattle.serde_json.specs.Written.{IsInOrder, outline, items_outline, members_outline}
use Rattle.serde_json.proofs.Texts.{tokens_from_order}
use Rattle.script_writing.specs.Script.{IsPlain, IsSpelled}

mutual
  outline_depth : (d : Data) → tree.depth (outline d) ≡ depth d
  outline_depth null = refl
  outline_depth (boolean b) = refl
  outline_depth (number n) = refl
  outline_depth (string s) = refl
  outline_depth (array ds) = ap suc (items_outline_depth ds)
  outline_depth (object ms) = ap suc (members_outline_depth ms)

  items_outline_depth : (ds : Items) → tree.items_depth (items_outline ds) ≡ items_depth ds
  items_outline_depth no_items = refl
  items_outline_depth (item d ds) = ap₂ max (outline_depth d) (items_outline_depth ds)

  members_outline_depth : (ms : Members) → tree.members_depth (members_outline ms) ≡ members_depth ms
  members_outline_depth no_members = refl
  members_outline_depth (member k d ms) = ap₂ max (outline_depth d) (members_outline_depth ms)

pub spelled : (d : Data) (text : List ℕ) → IsPlain d → IsInOrder text d → (depth d ≤ max_depth → read text ≡ Some d) → IsSpelled d
spelled d text plain order reads =
    let j = outline d in
    let shallow : tree.depth (outline d) ≤ 100 = subst (λ n. n ≤ 100) (sym (outline_depth d)) plain.shallow in
    let ts : tokens text ≡ tree.json_tokens j ++ [] = tokens_from_order text d order plain.whole ∙ sym (append-nil (tree.json_tokens j)) in
    let parsed : json.value max_depth (tokens text) ≡ Some (j, []) = ap (json.value max_depth) ts ∙ value-json_tokens j max_depth [] (omega (arith, shallow)) in
    let back : read text ≡ of_json j = ap (λ o. option_and_then of_json (option_and_then (λ p. json.if_last p.0 p.1) o)) parsed in
    record {
      numbers = value-HasNumbers max_depth (tokens text) [] j (ArePrintableOrBad-tokens text) parsed;
      shallow = shallow;
      same = sym back ∙ reads (omega (arith, plain.shallow));
    }
