-- From one settled node to the next.
use Rattle.std.proofs.Common.{refl, sym, ◌∙◌, subst, arith}
use Rattle.sysmem_tree.specs.Forest.{settled}
use Rattle.sysmem_tree.proofs.layouts.Settling.{Meets, meets_settled, goes_up, goes_past, stops_at, nothing_more}
use Rattle.sysmem_tree.proofs.settled.settles.Goals as goal

pub loop-at-init : goal.loop-at-init
loop-at-init c = λ w g next l s. (settled w, subst (λ i. Meets c.args.layout.now.places c.args.to i (settled w)) s (meets_settled c.args.layout.now.places g w c.args.to next l), refl)

pub returns-then-from-node : goal.returns-then-from-node
returns-then-from-node c = λ w g next l s.
    let (ss, m, same) = c.loop-at.invariant w g next l s in
    sym (same ∙ stops_at c.args.layout.now.places c.args.to c.loop-at.at _ c.loop-at-test.true c.args.node ss m (sym c.from.ensures ∙ c.if-from-node.true))

pub loop-at-smaller : goal.loop-at-smaller
loop-at-smaller c =
    let (w, g, next, l, s) = c.requires.laid in
    let (ss, m, same) = c.loop-at.invariant w g next l s in
    let (up, within) = goes_up c.args.layout.now.places c.args.to c.loop-at.at _ c.loop-at-test.true c.past-at.result ss c.past-at.ensures m in
    omega (arith, up, within)

pub loop-at-preserved : goal.loop-at-preserved
loop-at-preserved c = λ w g next l s.
    let (ss, m, same) = c.loop-at.invariant w g next l s in
    let (rest, on, is) = goes_past c.args.layout.now.places c.args.to c.loop-at.at _ c.loop-at-test.true c.args.node ss m (λ same. c.if-from-node.false (c.from.ensures ∙ same)) in
    (rest, subst (λ i. Meets c.args.layout.now.places c.args.to i rest) (sym c.past-at.ensures) on, same ∙ is)

pub returns : goal.returns
returns c = λ w g next l s.
    let (ss, m, same) = c.loop-at.invariant w g next l s in
    sym (same ∙ nothing_more c.args.layout.now.places c.args.to c.loop-at.at c.args.node ss (omega (arith, c.loop-at-test.false)) m)
