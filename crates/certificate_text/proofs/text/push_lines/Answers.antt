use Rattle.std.proofs.Common.{◌++◌, ◌∷◌, [], false, map, ap, ap₂, sym, ◌∙◌, append_assoc}
use Rattle.serde_json.specs.View.{items_of}
use Rattle.serde_json.specs.Written.{items_text}
use Rattle.certificate_text.specs.Told.{line_data}
use Rattle.certificate_text.proofs.LineText.{lines_put}
use Rattle.certificate_text.proofs.text.push_lines.Goals as goal

pub returns : goal.returns
returns c = λ plain.
    c.in_ok-extend_from_slice-4.ensures.items
    ∙ sym (append_assoc c.push_line_items.new.out.items (93 ∷ []) (125 ∷ []))
    ∙ ap (λ s. s ++ 125 ∷ []) (c.in_ok-push_line_items.ensures
    ∙ ap (λ s. s ++ items_text false (items_of (map line_data c.args.lines.now))) (c.in_ok-extend_from_slice-3.ensures.items
    ∙ ap (λ s. s ++ 34 ∷ 58 ∷ 91 ∷ []) (c.in_ok-extend_from_slice-2.ensures.items
    ∙ ap₂ (λ s t. s ++ t) c.in_ok-extend_from_slice.ensures.items c.as_bytes.ensures.value)))
    ∙ lines_put c.args.out.now.items c.args.kind.now c.args.lines.now plain
