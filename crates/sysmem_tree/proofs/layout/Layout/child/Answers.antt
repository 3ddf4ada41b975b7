-- From one alternative to the next, and the one that was chosen at last.
use Rattle.std.proofs.Common.{◌≡◌, ◌<◌, ◌-◌, suc, length, slice_get, sym, ◌∙◌, ap, subst, arith}
use Rattle.std.proofs.lemmas.Option.{slice_get_within}
use Rattle.sysmem_tree.specs.Forest.{each}
use Rattle.sysmem_tree.proofs.layout.Layout.child.Goals as goal
use Rattle.sysmem_tree.proofs.layouts.Walks.{step_over, first_stands, first_within}

pub loop-left-preserved : goal.loop-left-preserved
loop-left-preserved c = λ kids a less.
    let (ks, b, within, same) = c.loop-left.invariant kids a less in
    let e : suc (c.loop-left.left - 1) ≡ c.loop-left.left = omega (arith, c.loop-left-test.true) in
    let (rest, on, less', is) = step_over c.args.self.now.places c.loop-left.at (c.loop-left.left - 1) _ ks b (subst (λ x. x < length (each ks)) (sym e) within) in
    (rest, on, less', is ∙ (ap (slice_get (each ks)) e ∙ same))

pub returns-clause-place : goal.returns-clause-place
returns-clause-place c = λ kids kid a at.
    let (ks, b, within, same) = c.loop-left.invariant kids a (slice_get_within (each kids) c.args.choice kid at) in
    let e : 0 ≡ c.loop-left.left = omega (arith, c.loop-left-test.false) in
    first_stands c.args.self.now.places c.loop-left.at ks kid b (ap (slice_get (each ks)) e ∙ (same ∙ at))

pub returns-clause-within : goal.returns-clause-within
returns-clause-within c =
    let (kids, a, less) = c.requires in
    let (ks, b, within, same) = c.loop-left.invariant kids a less in
    first_within c.args.self.now.places c.loop-left.at ks b (omega (arith, within))
