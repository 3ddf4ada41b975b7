use Rattle.std.proofs.Common.{◌++◌, ◌∷◌, [], ap, ap₂, ◌∙◌}
use Rattle.serde_json.specs.Written.{compact_text}
use Rattle.certificate_text.specs.Told.{paths_data}
use Rattle.certificate_text.proofs.NamesRead.{field_plain}
use Rattle.certificate_text.proofs.LineText.{line_middle, named_put}
use Rattle.certificate_text.proofs.text.push_named.Goals as goal

pub returns : goal.returns
returns c = λ plain.
    c.in_ok-push.ensures.items
    ∙ ap (λ s. s ++ 125 ∷ []) (c.in_ok-push_paths.ensures
    ∙ ap (λ s. s ++ compact_text (paths_data c.args.nodes.now)) (c.in_ok-extend_from_slice-5.ensures.items
    ∙ ap (λ s. s ++ line_middle) (c.in_ok-extend_from_slice-4.ensures.items
    ∙ ap₂ (λ s t. s ++ t) (c.in_ok-extend_from_slice-3.ensures.items
    ∙ ap (λ s. s ++ 34 ∷ 58 ∷ 34 ∷ []) (c.in_ok-extend_from_slice-2.ensures.items
    ∙ ap₂ (λ s t. s ++ t) c.in_ok-extend_from_slice.ensures.items c.as_bytes.ensures.value)) (c.as_bytes-2.ensures.value ∙ c.name.ensures))))
    ∙ named_put c.args.out.now.items c.args.kind.now c.args.field c.args.nodes.now plain (field_plain c.args.field)
