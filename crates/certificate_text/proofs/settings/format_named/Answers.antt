use Rattle.sysmem_sanitise.proofs.CallerLemmas.{format_found}
use Rattle.certificate_text.proofs.settings.format_named.Goals as goal

pub returns : goal.returns
returns c = format_found _ _ c.from_name.ensures
