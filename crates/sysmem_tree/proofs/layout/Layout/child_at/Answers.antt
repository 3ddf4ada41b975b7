-- The child that the choice takes.
use Rattle.std.proofs.Common.{Some, sym, subst}
use Rattle.std.proofs.lemmas.Option.{slice_get_within}
use Rattle.sysmem_tree.specs.Forest.{each}
use Rattle.sysmem_tree.specs.OpenGroups.{IsFirstOpen}
use Rattle.sysmem_tree.proofs.layouts.GroupWalks.{opens, child_place, has_child}
use Rattle.sysmem_tree.proofs.layout.Layout.child_at.Goals as goal

pub child-requires : goal.child-requires
child-requires c =
    let (d, cs, h, prefix) = c.requires in
    let here = subst (λ i. IsFirstOpen c.args.self.now d cs (Some i)) (sym c.group.view_is) h in
    let o = opens c.args.self.now d cs c.group.inside.0 here c.args.choice prefix in
    (o.group.kids, o.alternatives, slice_get_within (each o.group.kids) c.args.choice o.kid o.is_kid)

pub returns-clause-child : goal.returns-clause-child
returns-clause-child c = λ d cs h prefix.
    let here = subst (λ i. IsFirstOpen c.args.self.now d cs (Some i)) (sym c.group.view_is) h in
    let o = opens c.args.self.now d cs c.group.inside.0 here c.args.choice prefix in
    child_place c.args.self.now d cs c.group.inside.0 here c.args.choice c.child.result o (c.child.ensures.place o.group.kids o.kid o.alternatives o.is_kid)

pub returns-clause-there : goal.returns-clause-there
returns-clause-there c =
    let (d, cs, h, prefix) = c.requires in
    let here = subst (λ i. IsFirstOpen c.args.self.now d cs (Some i)) (sym c.group.view_is) h in
    let o = opens c.args.self.now d cs c.group.inside.0 here c.args.choice prefix in
    has_child c.args.self.now d cs c.group.inside.0 here c.args.choice c.child.result o (c.child.ensures.place o.group.kids o.kid o.alternatives o.is_kid)
