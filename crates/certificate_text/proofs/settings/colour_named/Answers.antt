use Rattle.sysmem_sanitise.proofs.CallerLemmas.{colour_found}
use Rattle.certificate_text.proofs.settings.colour_named.Goals as goal

pub returns : goal.returns
returns c = colour_found _ _ c.from_name.ensures
