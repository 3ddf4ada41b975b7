-- By what stands for the trees.
use Rattle.std.proofs.Common.{◌≡◌}
use Rattle.sysmem_tree.specs.Members.{shown_at}
use Rattle.sysmem_tree.proofs.nodes.PathsUp.{seen_both}
use Rattle.sysmem_tree.proofs.tree.Tree.shows_same.Goals as goal

pub returns : goal.returns
returns c = seen_both (λ xs i ys j. shown_at xs i ≡ shown_at ys j) _ _ _ _ _ _ _ _ _ _ _ c.show_same.ensures c.deref.ensures.value c.deref-2.ensures.value c.self.view_is c.others.view_is c.node.view_is c.other.view_is
