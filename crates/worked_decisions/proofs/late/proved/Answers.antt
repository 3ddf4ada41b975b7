use Rattle.std.proofs.Common.{◌≡◌, true, sym, subst}
use Rattle.sysmem_tree.specs.Domain.{TreeFacts, is_ready}
use Rattle.worked_decisions.proofs.late.proved.Goals as goal

pub search-requires-clause-ready : goal.search-requires-clause-ready
search-requires-clause-ready c = subst (λ (t : TreeFacts). is_ready t c.domain-domain.result ≡ true) (sym c.tree-tree.ensures) c.domain-domain.ensures.waits.ready
