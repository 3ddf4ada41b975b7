use Rattle.sysmem_sanitise.proofs.CallerLemmas.{modifier_found}
use Rattle.certificate_text.proofs.settings.modifier_named.Goals as goal

pub returns : goal.returns
returns c = modifier_found _ _ c.from_name.ensures
