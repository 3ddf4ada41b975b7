-- What the place of a group shows.
use Rattle.std.proofs.Common.{Some, sym, subst, arith}
use Rattle.sysmem_tree.specs.OpenGroups.{IsFirstOpen}
use Rattle.sysmem_tree.proofs.layouts.GroupWalks.{group_within, group_shown, place_there}
use Rattle.sysmem_tree.proofs.layout.Layout.group_at.Goals as goal

pub bounds-self-group-inside : goal.bounds-self-group-inside
bounds-self-group-inside c = let (d, cs, h) = c.requires in omega (arith, c.group.view_is, group_within c.args.self.now d cs c.args.group h)

pub offset_bounds-self-group-inside : goal.offset_bounds-self-group-inside
offset_bounds-self-group-inside c = let (d, cs, h) = c.requires in omega (arith, c.group.view_is, group_within c.args.self.now d cs c.args.group h)

pub returns-clause-group : goal.returns-clause-group
returns-clause-group c = λ d cs h. group_shown c.args.self.now d cs c.group.inside.0 (subst (λ i. IsFirstOpen c.args.self.now d cs (Some i)) (sym c.group.view_is) h) _

pub returns-clause-there : goal.returns-clause-there
returns-clause-there c = λ nodes holds. let (d, cs, h) = c.requires in
    place_there c.args.self.now.places c.group.inside.0 _ _ (omega (arith, c.group.view_is, group_within c.args.self.now d cs c.args.group h)) (omega arith) holds
