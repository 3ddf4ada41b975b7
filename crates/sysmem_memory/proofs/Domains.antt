-- The list of all coherency domains leaves none out.
use Rattle.std.proofs.Common.{rules}
use Rattle.list_lemmas.specs.Each.{ListsEach}
use Rattle.sysmem_memory.specs.Domain.{domain_name}
use Rattle.sysmem_memory.specs.declared.domain.TheConstants.CoherencyDomain.{ALL as domains}

pub listed_domains : ListsEach domain_name domains
listed_domains x = search rules
