-- What the layout tells of the domain's members.
use Rattle.sysmem_tree.proofs.settled.is_settled.Goals as goal
use Rattle.sysmem_tree.proofs.layouts.NextGroups.{prefix_of_places}
use Rattle.sysmem_tree.proofs.layouts.ToldMembers.{told_member}

pub settles_after-requires : goal.settles_after-requires
settles_after-requires c = (_, c.new-layout.ensures.layout, prefix_of_places c.new-layout.result _ c.new-layout.ensures.layout _ _ c.choices.ensures c.requires.prefix)

pub returns : goal.returns
returns c = told_member c.new-layout.result c.args.nodes.now c.args.root c.args.node _ _ c.settles_after.result c.new-layout.ensures.layout c.choices.ensures c.requires.prefix (c.settles_after.ensures _ c.new-layout.ensures.layout)
