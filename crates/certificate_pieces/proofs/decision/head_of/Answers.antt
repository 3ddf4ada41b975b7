use Rattle.std.proofs.Common.{◌++◌, ◌∷◌, [], ap, ap₂, ◌∙◌}
use Rattle.certificate_text.specs.Paths.{path_text}
use Rattle.certificate_pieces.proofs.Spelled.{head_put}
use Rattle.certificate_pieces.proofs.decision.head_of.Goals as goal

pub returns : goal.returns
returns c =
    c.in_ok-push.ensures.items
    ∙ ap (λ s. s ++ 34 ∷ []) (c.in_ok-extend_from_slice.ensures.items
    ∙ ap₂ (λ a b. a ++ b) c.in_ok-head.ensures.items (c.as_bytes.ensures.value ∙ c.in_ok-push_path.ensures ∙ ap (λ s. s ++ path_text c.args.ordinals.now) c.new-text.ensures.bytes))
    ∙ head_put c.args.ordinals.now c.type_inv.ordinals
