use Rattle.record_reading.proofs.Names.{domain_found}
use Rattle.record_reading.proofs.reading.name.CoherencyDomainNamed.by_name.Goals as goal

pub returns : goal.returns
returns c = domain_found _ _ c.from_name.ensures
