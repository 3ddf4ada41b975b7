use Rattle.sysmem_tree.specs.Domain.{is_ready}
use Rattle.sysmem_tree.proofs.steps.Entering.{seen}
use Rattle.sysmem_tree.proofs.tree.Tree.is_ready.Goals as goal

pub returns : goal.returns
returns c = seen is_ready _ _ _ _ _ _ _ _ c.is_ready.ensures c.deref.ensures.value c.deref-2.ensures.value c.self.view_is c.domain.view_is
