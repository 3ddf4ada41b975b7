use Rattle.std.proofs.Common.{◌++◌, ◌∷◌, [], ap, sym, ◌∙◌}
use Rattle.std.specs.Prelude.{option_map}
use Rattle.std.specs.Arc.{arc_value}
use Rattle.certificate_pieces.specs.Texts.{head_text, verdict_of}
use Rattle.certificate_pieces.proofs.Spelled.{bare_told, decision_put, head_within, tail_text}
use Rattle.certificate_pieces.proofs.decision.decision_of.Goals as goal

pub tail_of-requires : goal.tail_of-requires
tail_of-requires c =
    let claim = option_map (λ shared. arc_value shared) c.args.claim.now in
    let tail = tail_text c.args.platform.now (verdict_of claim) in
    let head = c.deref-2.ensures.value ∙ c.in_ok-head.ensures ∙ ap head_text c.ordinals.ensures in
    head_within c.deref.result.now c.deref-2.result.now tail
    (c.deref.ensures.value ∙ c.in_ok-text.ensures ∙ bare_told c.args.platform.now c.args.path.now claim ∙ ap (λ h. 91 ∷ (h ++ (tail ++ 93 ∷ 10 ∷ []))) (sym head))

pub returns : goal.returns
returns c =
    let claim = option_map (λ shared. arc_value shared) c.args.claim.now in
    let tail = tail_text c.args.platform.now (verdict_of claim) in
    let head = c.deref-2.ensures.value ∙ c.in_ok-head.ensures ∙ ap head_text c.ordinals.ensures in
    decision_put c.args.platform.now c.args.path.now claim _ c.in_ok-head.head.items c.in_ok-tail.tail.items (c.in_ok-head.ensures ∙ ap head_text c.ordinals.ensures) c.in_ok-claim.ensures
    (c.in_ok-tail.ensures tail (c.deref.ensures.value ∙ c.in_ok-text.ensures ∙ bare_told c.args.platform.now c.args.path.now claim ∙ ap (λ h. 91 ∷ (h ++ (tail ++ 93 ∷ 10 ∷ []))) (sym head)))
