-- What is read of the tree is said of it.
use Rattle.sysmem_tree.proofs.layouts.ToldMembers.{read_members}
use Rattle.sysmem_tree.proofs.tree.Tree.is_member.Goals as goal

pub returns : goal.returns
returns c = read_members c.args.self.now _ _ _ _ c.args.domain _ c.args.node c.args.choices.now c.is_member.result c.is_member.ensures c.deref.ensures.value c.self.view_is c.domain.view_is c.node.view_is
