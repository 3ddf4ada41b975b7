use Rattle.sysmem_tree.proofs.domains.Soundness.{home_there}
use Rattle.sysmem_tree.proofs.tree.Tree.domain_of.Goals as goal

pub returns-clause-there : goal.returns-clause-there
returns-clause-there c = home_there _ _ _ _ _ _ c.self.invariant.0 c.self.view_is c.node.view_is c.requires c.index.ensures c.domain.ensures
