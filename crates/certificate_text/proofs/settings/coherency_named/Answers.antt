use Rattle.sysmem_sanitise.proofs.CallerLemmas.{domain_found}
use Rattle.certificate_text.proofs.settings.coherency_named.Goals as goal

pub returns : goal.returns
returns c = domain_found _ _ c.from_name.ensures
