-- What is told of one group is told of all.
use Rattle.std.proofs.Common.{◌∙◌, ◌∷◌, ◌++◌, [], ◌+◌, get_or, is_some, refl, sym, ap, subst, arith}
use Rattle.std.proofs.lemmas.List.{drop_more, take_more}
use Rattle.sysmem_tree.specs.Selection.{IsPrefix, after}
use Rattle.verdict_claims.specs.declared.no.No.TheVariants.{WrongShape}
use Rattle.verdict_claims.specs.Certificate.{RefutesEarlier}
use Rattle.verdict_claims.specs.Matter.{forest, terms}
use Rattle.verdict_claims.specs.Conflict.{IsConflictFor}
use Rattle.verdict_claims.specs.Fault.{EarlierFaults, no_list}
use Rattle.sysmem_proof.proofs.Left.{EarlierTo, of_err, front_at, some_front, drop_over, no_group, group_fails, group_read, all_groups, more_groups}
use Rattle.sysmem_proof.proofs.Ways.{way_at, on_way, at_end}
use Rattle.sysmem_proof.proofs.checking.earlier_faults.earlier_fault.Goals as goal

pub returns-then-index-earlier : goal.returns-then-index-earlier
returns-then-index-earlier c =
    let w = way_at (forest c.args.checker.now) c.choices-chosen.result.now c.loop-index.index (subst (IsPrefix (forest c.args.checker.now)) (sym c.choices-chosen.ensures) c.requires) c.loop-index-test.true in
    subst (λ why. EarlierFaults c.args.checker.now.platform (terms c.args.checker.now) (forest c.args.checker.now) c.args.selection.now c.args.earlier.now why) (sym c.no_list.ensures)
    (subst (λ xs. EarlierFaults c.args.checker.now.platform (terms c.args.checker.now) (forest c.args.checker.now) xs c.args.earlier.now (no_list (get_or c.choices-chosen.result.now c.loop-index.index 0))) c.choices-chosen.ensures (no_group c.args.checker.now.platform (terms c.args.checker.now) (forest c.args.checker.now) w.here c.choices-chosen.result.now c.args.earlier.now c.loop-index.index (c.loop-index.invariant.left w.here w.leads) (get_or c.choices-chosen.result.now c.loop-index.index 0) (drop_more c.choices-chosen.result.now c.loop-index.index 0 c.loop-index-test.true) c.if-index-earlier.true))

pub before_fault-requires : goal.before_fault-requires
before_fault-requires c =
    let w = way_at (forest c.args.checker.now) c.choices-chosen.result.now c.loop-index.index (subst (IsPrefix (forest c.args.checker.now)) (sym c.choices-chosen.ensures) c.requires) c.loop-index-test.true in
    subst (λ xs. IsPrefix (forest c.args.checker.now) (xs ++ get_or c.choices-chosen.result.now c.loop-index.index 0 ∷ [])) (sym c.loop-index.invariant.same) (ap is_some w.goes_on)

pub returns-in_err-before_fault : goal.returns-in_err-before_fault
returns-in_err-before_fault c =
    let w = way_at (forest c.args.checker.now) c.choices-chosen.result.now c.loop-index.index (subst (IsPrefix (forest c.args.checker.now)) (sym c.choices-chosen.ensures) c.requires) c.loop-index-test.true in
    of_err c.from_residual.result _ _ _ c.from_residual.ensures.1 (λ y same. same)
    (subst (λ xs. EarlierFaults c.args.checker.now.platform (terms c.args.checker.now) (forest c.args.checker.now) xs c.args.earlier.now c.in_err-before_fault.field-0.0) c.choices-chosen.ensures (group_fails c.args.checker.now.platform (terms c.args.checker.now) (forest c.args.checker.now) w.here c.choices-chosen.result.now c.args.earlier.now c.loop-index.index (c.loop-index.invariant.left w.here w.leads) (get_or c.choices-chosen.result.now c.loop-index.index 0) (drop_more c.choices-chosen.result.now c.loop-index.index 0 c.loop-index-test.true) c.refutations.result.now
    (front_at c.args.earlier.now c.loop-index.index c.loop-index.index c.index-earlier-index.result c.refutations.result.now refl c.if-index-earlier.false c.index-earlier-index.is c.refutations.ensures)
    w.alternatives w.open' _ (c.in_err-before_fault.ensures.told w.here w.alternatives (ap (after (forest c.args.checker.now)) c.loop-index.invariant.same ∙ w.leads) w.open')))

pub loop-index-preserved : goal.loop-index-preserved
loop-index-preserved c =
    let w = way_at (forest c.args.checker.now) c.choices-chosen.result.now c.loop-index.index (subst (IsPrefix (forest c.args.checker.now)) (sym c.choices-chosen.ensures) c.requires) c.loop-index-test.true in
    record {
      same = c.push.ensures ∙ (ap (λ xs. xs ++ get_or c.choices-chosen.result.now c.loop-index.index 0 ∷ []) (c.in_ok-before_fault.ensures.same ∙ c.loop-index.invariant.same) ∙ sym (take_more c.choices-chosen.result.now c.loop-index.index 0 c.loop-index-test.true));
      left = λ e leads. subst (EarlierTo c.args.checker.now.platform (terms c.args.checker.now) (forest c.args.checker.now) c.choices-chosen.result.now c.args.earlier.now (c.loop-index.index + 1)) (on_way (forest c.args.checker.now) e c.choices-chosen.result.now c.loop-index.index w c.loop-index-test.true leads)
          (group_read c.args.checker.now.platform (terms c.args.checker.now) (forest c.args.checker.now) w.here c.choices-chosen.result.now c.args.earlier.now c.loop-index.index (c.loop-index.invariant.left w.here w.leads) (get_or c.choices-chosen.result.now c.loop-index.index 0) (drop_more c.choices-chosen.result.now c.loop-index.index 0 c.loop-index-test.true) c.refutations.result.now
          (front_at c.args.earlier.now c.loop-index.index c.loop-index.index c.index-earlier-index.result c.refutations.result.now refl c.if-index-earlier.false c.index-earlier-index.is c.refutations.ensures)
          w.alternatives w.open' w.child w.is_child (c.in_ok-before_fault.ensures.told w.here w.alternatives (ap (after (forest c.args.checker.now)) c.loop-index.invariant.same ∙ w.leads) w.open'));
    }

pub returns-then-chosen-earlier : goal.returns-then-chosen-earlier
returns-then-chosen-earlier c =
    let (e, leads) = at_end (forest c.args.checker.now) c.choices-chosen.result.now c.args.selection.now c.loop-index.index c.choices-chosen.ensures c.requires c.loop-index-test.false in
    let (rs, is) = some_front c.args.earlier.now c.loop-index.index (omega (arith, c.if-chosen-earlier.true, c.loop-index.auto.index-end)) in
    subst (λ xs. EarlierFaults c.args.checker.now.platform (terms c.args.checker.now) (forest c.args.checker.now) xs c.args.earlier.now WrongShape) c.choices-chosen.ensures (more_groups c.args.checker.now.platform (terms c.args.checker.now) (forest c.args.checker.now) e c.choices-chosen.result.now c.args.earlier.now c.loop-index.index (c.loop-index.invariant.left e leads)
    (drop_over c.choices-chosen.result.now c.loop-index.index c.loop-index-test.false) rs is)

pub returns : goal.returns
returns c =
    let (e, leads) = at_end (forest c.args.checker.now) c.choices-chosen.result.now c.args.selection.now c.loop-index.index c.choices-chosen.ensures c.requires c.loop-index-test.false in
    subst (λ xs. RefutesEarlier (IsConflictFor c.args.checker.now.platform (terms c.args.checker.now)) (forest c.args.checker.now) xs c.args.earlier.now) c.choices-chosen.ensures
    (all_groups c.args.checker.now.platform (terms c.args.checker.now) (forest c.args.checker.now) e c.choices-chosen.result.now c.args.earlier.now c.loop-index.index (c.loop-index.invariant.left e leads)
    (drop_over c.choices-chosen.result.now c.loop-index.index c.loop-index-test.false) (omega (arith, c.if-chosen-earlier.false, c.loop-index-test.false)))
