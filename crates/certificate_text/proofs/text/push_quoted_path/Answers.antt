use Rattle.std.proofs.Common.{◌++◌, ◌∷◌, [], ap, ◌∙◌}
use Rattle.certificate_text.specs.Paths.{path_text}
use Rattle.certificate_text.proofs.Plain.{path_plain, quoted_text}
use Rattle.certificate_text.proofs.text.push_quoted_path.Goals as goal

pub returns : goal.returns
returns c =
    c.in_ok-push-2.ensures.items
    ∙ ap (λ s. s ++ 34 ∷ []) (c.in_ok-push_path.ensures ∙ ap (λ s. s ++ path_text c.args.ordinals.now) c.in_ok-push.ensures.items)
    ∙ quoted_text c.args.out.now.items (path_text c.args.ordinals.now) (path_plain c.args.ordinals.now c.type_inv.ordinals)
