-- One node after the other.
use Rattle.std.proofs.Common.{◌||◌, true, false, get_or, refl, sym, ◌∙◌, ap, subst, arith}
use Rattle.std.specs.List.{list_any}
use Rattle.std.proofs.lemmas.List.{length-set}
use Rattle.sysmem_tree.specs.Forest.{settled}
use Rattle.sysmem_tree.proofs.members.mark.Goals as goal
use Rattle.sysmem_tree.proofs.layouts.Marking.{nowhere, mark_next, or_false}
use Rattle.sysmem_tree.proofs.layouts.Settling.{Meets, is_at, is_met, meets_settled, nothing_more}

pub loop-at-init : goal.loop-at-init
loop-at-init c = λ w g next laid starts.
    (c.told-marks, settled w, subst (λ i. Meets c.args.layout.now.places c.args.to i (settled w)) starts (meets_settled c.args.layout.now.places g w c.args.to next laid), λ k. refl)

pub bounds-marks-place : goal.bounds-marks-place
bounds-marks-place c =
    let (w, g, next, laid, starts) = c.requires.laid in
    let (long, ss, meets, same) = c.loop-at.invariant w g next laid starts in
    let n = is_met c.args.layout.now.places c.args.to c.loop-at.at nowhere c.loop-at-test.true ss meets in
    c.requires.numbers c.loop-at.at _ n.there

pub loop-at-smaller : goal.loop-at-smaller
loop-at-smaller c =
    let (w, g, next, laid, starts) = c.requires.laid in
    let (long, ss, meets, same) = c.loop-at.invariant w g next laid starts in
    let n = is_met c.args.layout.now.places c.args.to c.loop-at.at nowhere c.loop-at-test.true ss meets in
    omega (arith, c.past-at.ensures, n.up, c.loop-at-test.true)

pub loop-at-preserved : goal.loop-at-preserved
loop-at-preserved c = λ w g next laid starts.
    let (long, ss, meets, same) = c.loop-at.invariant w g next laid starts in
    let (rest, on, all) =
    mark_next c.args.layout.now.places c.args.to c.loop-at.at c.past-at.result nowhere c.loop-at.marks ss (λ k. get_or c.args.marks.now k false || list_any (is_at k) (settled w)) long c.requires.numbers c.loop-at-test.true meets
    c.past-at.ensures same in
    (length-set c.loop-at.marks (get_or c.args.layout.now.places c.loop-at.at nowhere).node true ∙ long, rest, on, all)

pub returns : goal.returns
returns c = λ w g next laid starts k.
    let (long, ss, meets, same) = c.loop-at.invariant w g next laid starts in
    sym (or_false _) ∙ (sym (ap (λ b. get_or c.loop-at.marks k false || b) (nothing_more c.args.layout.now.places c.args.to c.loop-at.at k ss (omega (arith, c.loop-at-test.false)) meets)) ∙ same k)
