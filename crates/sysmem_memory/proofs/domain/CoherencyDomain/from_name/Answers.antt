use Rattle.std.proofs.Common.{rules, tests}
use Rattle.std.proofs.lemmas.Iterator.{YieldsList-from_slice}
use Rattle.std.proofs.lemmas.Iterator.Search.{find_from_yields_List}
use Rattle.std.specs.Prelude.{bytes_eq}
use Rattle.list_lemmas.proofs.Each.{found_each}
use Rattle.sysmem_memory.specs.Domain.{domain_name}
use Rattle.sysmem_memory.specs.declared.domain.TheConstants.CoherencyDomain.{ALL}
use Rattle.sysmem_memory.proofs.Domains.{listed_domains}
use Rattle.sysmem_memory.proofs.domain.CoherencyDomain.from_name.Goals as goal

pub returns : goal.returns
returns c =
    let found = find_from_yields_List (λ one. bytes_eq (domain_name one) c.args.name.now) _ _ c.find.result c.find.ensures.ran
    (YieldsList-from_slice ALL c.iter.ensures.rest) (λ x b q k. search (rules, tests)) in
    found_each domain_name ALL listed_domains c.args.name.now c.copied.result (search (rules, tests))
