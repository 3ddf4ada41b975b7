-- The ground is true of whom the misfit names.
use Rattle.std.proofs.Common.{false, ◌∷◌, [], sym, ap, subst, ◌∙◌}
use Rattle.sysmem_merge.specs.declared.settings.Settings.{Settings}
use Rattle.settings_reasons.specs.True.{IsGround}
use Rattle.value_sources.specs.Sources.{all_asked}
use Rattle.settings_reasons.proofs.offer_reason.OfferReason.of_misfit.Goals as goal

pub invariant_of-result : goal.invariant_of-result
invariant_of-result c =
    subst (λ asked. IsGround c.settings.result.offer false asked c.args.ground) (sym (ap all_asked c.in_ok-vec.ensures.items ∙ ap (λ q. q ∷ []) c.participant.ensures))
    (subst (λ (s : Settings). IsGround s.offer false (c.args.misfit.now.participant ∷ []) c.args.ground) (sym c.settings.ensures) c.requires)
