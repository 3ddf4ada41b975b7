-- A node with constraints is a participant where it is a member.
use Rattle.sysmem_tree.proofs.layouts.ToldMembers.{with_constraints, without, read_members}
use Rattle.sysmem_tree.proofs.tree.Tree.settled.Goals as goal

pub returns-then-is_some : goal.returns-then-is_some
returns-then-is_some c = with_constraints _ c.constraints_of.result c.args.self.now.nodes c.args.domain c.args.node c.args.prefix.now c.requires.node c.constraints_of.ensures c.is_settled.result c.if-is_some.ensures
    (read_members c.args.self.now _ _ _ _ c.args.domain _ c.args.node c.args.prefix.now c.is_settled.result c.is_settled.ensures c.deref.ensures.value c.self.view_is c.domain.view_is c.node.view_is)

pub returns-else-is_some : goal.returns-else-is_some
returns-else-is_some c = without _ c.constraints_of.result c.args.self.now.nodes c.args.domain c.args.node c.args.prefix.now c.requires.node c.constraints_of.ensures c.is_some.result c.if-is_some.false c.if-is_some.ensures
