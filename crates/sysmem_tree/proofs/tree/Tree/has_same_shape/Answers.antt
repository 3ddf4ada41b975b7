-- By what stands for the trees.
use Rattle.std.proofs.Common.{◌≡◌}
use Rattle.sysmem_tree.specs.Shape.{shape_of}
use Rattle.sysmem_tree.proofs.nodes.PathsUp.{seen_both}
use Rattle.sysmem_tree.proofs.tree.Tree.has_same_shape.Goals as goal

pub returns : goal.returns
returns c = seen_both (λ xs i ys j. shape_of xs i ≡ shape_of ys j) _ _ _ _ _ _ _ _ _ _ _ c.have_same_shape.ensures c.deref.ensures.value c.deref-2.ensures.value c.self.view_is c.others.view_is c.domain.view_is c.domain.view_is
