use Rattle.std.proofs.Common.{ap, length}
use Rattle.sysmem_tree.proofs.domains.Soundness.{count_few}
use Rattle.sysmem_tree.proofs.tree.Tree.copy.Goals as goal

pub copied_domains-requires : goal.copied_domains-requires
copied_domains-requires c = (count_few _ _ c.self.invariant.0 (ap length c.deref-2.ensures.value)).1
