use Rattle.std.proofs.Common.{◌++◌, ◌∷◌, [], ap, ap₂, ◌∙◌}
use Rattle.certificate_text.proofs.NamesRead.{field_plain}
use Rattle.certificate_text.proofs.LineText.{line_middle, line_put}
use Rattle.certificate_text.proofs.text.push_line.Goals as goal

pub returns : goal.returns
returns c = λ nodes told.
    c.in_ok-push.ensures.items
    ∙ ap (λ s. s ++ 125 ∷ []) (c.in_ok-extend_from_slice-4.ensures.items
    ∙ ap₂ (λ s t. s ++ t) (c.in_ok-extend_from_slice-3.ensures.items
    ∙ ap (λ s. s ++ line_middle) (c.in_ok-extend_from_slice-2.ensures.items
    ∙ ap₂ (λ s t. s ++ t) c.in_ok-extend_from_slice.ensures.items (c.as_bytes.ensures.value ∙ c.name.ensures))) told)
    ∙ line_put c.args.out.now.items c.args.field nodes (field_plain c.args.field)
