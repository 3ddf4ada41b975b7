-- The place of a child tells the group that is open once it was chosen.
use Rattle.std.proofs.Common.{◌++◌, [], ◌∷◌, None, Some, sym, subst, arith}
use Rattle.sysmem_tree.specs.OpenGroups.{IsChildPlace, IsFirstOpen}
use Rattle.sysmem_tree.proofs.layouts.GroupWalks.{child_there, opens_after}
use Rattle.sysmem_tree.proofs.layouts.Shares.{child_within}
use Rattle.sysmem_tree.proofs.layout.Layout.open_after.Goals as goal

pub bounds-self-child-inside : goal.bounds-self-child-inside
bounds-self-child-inside c = let (d, cs, k, h) = c.requires in
    let less = child_within c.args.self.now c.args.child (child_there c.args.self.now d cs k c.args.child h) in omega (arith, c.child.view_is, less)

pub offset_bounds-self-child-inside : goal.offset_bounds-self-child-inside
offset_bounds-self-child-inside c = let (d, cs, k, h) = c.requires in
    let less = child_within c.args.self.now c.args.child (child_there c.args.self.now d cs k c.args.child h) in omega (arith, c.child.view_is, less)

pub returns-in_err-self : goal.returns-in_err-self
returns-in_err-self c = λ d cs k h. subst (IsFirstOpen c.args.self.now d (cs ++ k ∷ [])) (sym c.from_residual.ensures)
    (opens_after c.args.self.now d cs k c.child.inside.0 (subst (λ i. IsChildPlace c.args.self.now d cs k i) (sym c.child.view_is) h) _ None c.in_err-self.was)

pub returns : goal.returns
returns c = λ d cs k h.
    opens_after c.args.self.now d cs k c.child.inside.0 (subst (λ i. IsChildPlace c.args.self.now d cs k i) (sym c.child.view_is) h) _ (Some c.in_ok-self.field-0) c.in_ok-self.was
