-- Where the choices are a prefix, the layout tells of the domain's members.
use Rattle.std.proofs.Common.{[]}
use Rattle.sysmem_tree.specs.Shape.{by_number, forest_of}
use Rattle.sysmem_tree.proofs.layouts.NextGroups.{prefix_of_places}
use Rattle.sysmem_tree.proofs.selections.Prefixes.{is_prefix_of}
use Rattle.sysmem_tree.proofs.layouts.ToldMembers.{told_member}
use Rattle.sysmem_tree.proofs.settled.is_member.Goals as goal

pub settles_after-requires : goal.settles_after-requires
settles_after-requires c =
    let d = forest_of by_number c.args.nodes.now c.args.root [] in
    let laid = c.new-layout.ensures.layout in
    let prefix = is_prefix_of d _ _ _ (c.is_prefix.ensures d laid) c.choices.ensures c.if-is_prefix.true in (d, laid, prefix_of_places c.new-layout.result d laid _ _ c.choices-then-is_prefix.ensures prefix)

pub returns-then-is_prefix : goal.returns-then-is_prefix
returns-then-is_prefix c =
    let d = forest_of by_number c.args.nodes.now c.args.root [] in
    let laid = c.new-layout.ensures.layout in
    let prefix = is_prefix_of d _ _ _ (c.is_prefix.ensures d laid) c.choices.ensures c.if-is_prefix.true in
    told_member c.new-layout.result c.args.nodes.now c.args.root c.args.node _ _ c.settles_after.result laid c.choices-then-is_prefix.ensures prefix (c.settles_after.ensures d laid)
