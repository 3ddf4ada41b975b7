use Rattle.std.proofs.Common.{◌≡◌, true, sym, subst}
use Rattle.sysmem_tree.specs.Domain.{TreeFacts, is_ready}
use Rattle.worked_decisions.proofs.workers.find_alike.Goals as goal

pub search_wide-found-requires-clause-ready : goal.search_wide-found-requires-clause-ready
search_wide-found-requires-clause-ready g c κs within = subst (λ (t : TreeFacts). is_ready t c.domain-domain.result ≡ true) (sym c.tree-tree.ensures) c.domain-domain.ensures.waits.ready
