-- It is equal to one of them.
use denote.Enum.Bare.{sameb, same_true}
use Rattle.std.proofs.Common.{sym, ◌∙◌}
use Rattle.std.proofs.lemmas.Map.Views.{Contains-from_any}
use Rattle.sysmem_counts.specs.contracts.field.Field.{the_type}
use Rattle.sysmem_memory.specs.PlaceTable.{place_fields}
use Rattle.settings_reasons.proofs.fixed.is_of_place.Goals as goal

pub returns : goal.returns
returns c = λ is. Contains-from_any {eq = λ a b. sameb the_type b a} (λ x y same. sym (same_true the_type tt y x same)) c.args.field place_fields (sym c.contains.ensures.value ∙ is)
