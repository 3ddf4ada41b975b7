-- What the layout tells of the domain.
use Rattle.std.proofs.Common.{arith}
use Rattle.sysmem_tree.proofs.layout.Layout.next_group.Goals as goal
use Rattle.sysmem_tree.proofs.layouts.GroupWalks.{place_there}
use Rattle.sysmem_tree.proofs.layouts.NextGroups.{prefix_of_places, told_none, told_group, group_within}

pub group_after-requires : goal.group_after-requires
group_after-requires c = let (d, laid, prefix) = c.requires in (d, laid, prefix_of_places c.args.self.now d laid _ _ c.choices.ensures prefix)

pub bounds-self-at : goal.bounds-self-at
bounds-self-at c =
    let (d, laid, prefix) = c.requires in
    group_within c.args.self.now d laid _ _ c.choices.ensures _ (c.group_after.ensures d laid) c.in-Some.at c.in-Some.is prefix

pub offset_bounds-self-at : goal.offset_bounds-self-at
offset_bounds-self-at c =
    let (d, laid, prefix) = c.requires in
    let less = group_within c.args.self.now d laid _ _ c.choices.ensures _ (c.group_after.ensures d laid) c.in-Some.at c.in-Some.is prefix in
    omega (arith, less)

pub returns-in-None-clause-group : goal.returns-in-None-clause-group
returns-in-None-clause-group c = λ d laid. told_none c.args.self.now d laid _ _ c.choices.ensures _ (c.group_after.ensures d laid) c.in-None.is

pub returns-in-Some-clause-group : goal.returns-in-Some-clause-group
returns-in-Some-clause-group c = λ d laid. told_group c.args.self.now d laid _ _ c.choices.ensures _ (c.group_after.ensures d laid) c.in-Some.at _ c.in-Some.is

pub returns-in-Some-clause-there : goal.returns-in-Some-clause-there
returns-in-Some-clause-there c = λ nodes holds.
    let (d, laid, prefix) = c.requires in
    let less = group_within c.args.self.now d laid _ _ c.choices.ensures _ (c.group_after.ensures d laid) c.in-Some.at c.in-Some.is prefix in
    place_there c.args.self.now.places c.in-Some.at _ _ less (omega arith) holds
