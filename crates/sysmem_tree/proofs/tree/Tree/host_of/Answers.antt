use Rattle.std.proofs.Common.{◌∙◌, sym}
use Rattle.sysmem_tree.proofs.domains.Soundness.{parent_there}
use Rattle.sysmem_tree.proofs.tree.Tree.host_of.Goals as goal

pub returns-clause-there : goal.returns-clause-there
returns-clause-there c = parent_there _ _ _ _ _ _ c.self.invariant.0 c.self.view_is c.domain.view_is c.requires c.index.ensures (sym c.birth.ensures ∙ c.in_ok-birth.was)
