-- The walk over the child's tree.
use Rattle.std.proofs.Common.{arith}
use Rattle.sysmem_tree.proofs.layouts.Shares.{child_within, gives_share_as}
use Rattle.sysmem_tree.proofs.layout.Layout.settled_with.Goals as goal

pub bounds-self-child-inside : goal.bounds-self-child-inside
bounds-self-child-inside c = let less = child_within c.args.self.now c.args.child c.requires in omega (arith, c.child.view_is, less)

pub offset_bounds-self-child-inside : goal.offset_bounds-self-child-inside
offset_bounds-self-child-inside c = let less = child_within c.args.self.now c.args.child c.requires in omega (arith, c.child.view_is, less)

pub returns : goal.returns
returns c = gives_share_as c.args.self.now c.args.child c.child.inside.0 c.child.view_is c.requires _
