use Rattle.std.proofs.Common.{◌++◌, false, map, ap, ◌∙◌}
use Rattle.serde_json.specs.View.{items_of}
use Rattle.serde_json.specs.Written.{items_text}
use Rattle.certificate_text.specs.Told.{item_data}
use Rattle.certificate_text.proofs.PutAsText.{listed, list_added}
use Rattle.certificate_text.proofs.json_writer.Writer.with_refutation.Goals as goal

pub invariant_of-result : goal.invariant_of-result
invariant_of-result c =
    let text = c.in_ok-push_items.ensures.text ∙ ap (λ s. s ++ items_text false (items_of (map item_data c.args.items.now))) c.in_ok-empty.ensures.done in
    listed c.self.inside (record { done = c.push_items.new.out; behind = c.in_ok-behind.behind }) c.self.invariant (items_of (map item_data c.args.items.now)) c.in_ok-push_items.ensures.numbers
    text c.in_ok-behind.ensures.before c.in_ok-behind.ensures.tokens

pub returns : goal.returns
returns c =
    let text = c.in_ok-push_items.ensures.text ∙ ap (λ s. s ++ items_text false (items_of (map item_data c.args.items.now))) c.in_ok-empty.ensures.done in
    list_added c.self.inside (record { done = c.push_items.new.out; behind = c.in_ok-behind.behind }) c.self.invariant (items_of (map item_data c.args.items.now)) c.in_ok-push_items.ensures.numbers
    text c.in_ok-behind.ensures.before c.in_ok-behind.ensures.tokens c.args.self c.self.view_is
