-- The field refuses the place to whom the misfit names.
use Rattle.std.proofs.Common.{◌∷◌, [], sym, ap, subst, Contains, ◌∙◌}
use Rattle.sysmem_memory.specs.PlaceTable.{place_fields}
use Rattle.sysmem_merge.specs.declared.settings.Settings.{Settings}
use Rattle.settings_reasons.proofs.Misfits.{misfit_place}
use Rattle.value_sources.specs.Sources.{all_asked}
use Rattle.settings_reasons.proofs.place_reason.PlaceReason.of_misfit.Goals as goal

pub invariant_of-result : goal.invariant_of-result
invariant_of-result c = misfit_place c.args.misfit.now.platform c.args.misfit.now.settings c.args.misfit.now.participant c.field.result c.heap.result.now _ _
    (ap (λ (s : Settings). s.place.coherency) c.settings.ensures)
    (ap all_asked c.in_ok-vec.ensures.items ∙ ap (λ q. q ∷ []) c.participant.ensures)
    c.heap.ensures
    (subst (Contains place_fields) (sym c.field.ensures.field) c.requires)
    c.field.ensures.fails
