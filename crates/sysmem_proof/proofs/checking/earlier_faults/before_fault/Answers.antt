-- What is told of one choice is told of those before the chosen one.
use Rattle.std.proofs.Common.{◌≡◌, ◌∙◌, [], drop, take, is_some, ap, subst, arith}
use Rattle.verdict_claims.specs.Matter.{forest, terms}
use Rattle.sysmem_proof.proofs.Left.{of_err, front_at, some_front, within_take, none_behind, one_before, one_fails, one_missing, too_many}
use Rattle.sysmem_proof.proofs.Ways.{way_of, smaller_way, same_way, pushed, popped}
use Rattle.sysmem_proof.proofs.checking.earlier_faults.before_fault.Goals as goal

pub returns-then-number-refutations-clause-told : goal.returns-then-number-refutations-clause-told
returns-then-number-refutations-clause-told c = λ d es leads open'.
    let w = smaller_way (forest c.args.checker.now) c.args.prefix.now c.args.choice c.loop-index.index (way_of (forest c.args.checker.now) c.args.prefix.now c.args.choice c.requires) c.loop-index-test.true in
    one_missing c.args.checker.now.platform (terms c.args.checker.now) c.loop-index.index (take c.args.choice es) c.args.refutations.now (c.loop-index.invariant.left d es leads open') w.child
    (within_take es c.args.choice c.loop-index.index c.loop-index-test.true ∙ same_way (forest c.args.checker.now) d c.args.prefix.now c.loop-index.index es leads open' w) (omega (arith, c.if-number-refutations.true, c.from-number.ensures))

pub refutation_fault-requires : goal.refutation_fault-requires
refutation_fault-requires c =
    let w = smaller_way (forest c.args.checker.now) c.args.prefix.now c.args.choice c.loop-index.index (way_of (forest c.args.checker.now) c.args.prefix.now c.args.choice c.requires) c.loop-index-test.true in
    ap is_some (pushed (forest c.args.checker.now) c.args.prefix.now c.loop-index.prefix c.push.new.self c.loop-index.index w c.loop-index.invariant.same c.push.ensures)

pub returns-in_err-refutation_fault-clause-told : goal.returns-in_err-refutation_fault-clause-told
returns-in_err-refutation_fault-clause-told c = λ d es leads open'.
    let w = smaller_way (forest c.args.checker.now) c.args.prefix.now c.args.choice c.loop-index.index (way_of (forest c.args.checker.now) c.args.prefix.now c.args.choice c.requires) c.loop-index-test.true in
    of_err c.from_residual.result _ _ _ c.from_residual.ensures.1 (λ y same. same)
    (one_fails c.args.checker.now.platform (terms c.args.checker.now) c.loop-index.index (take c.args.choice es) c.args.refutations.now (c.loop-index.invariant.left d es leads open') w.child
    (within_take es c.args.choice c.loop-index.index c.loop-index-test.true ∙ same_way (forest c.args.checker.now) d c.args.prefix.now c.loop-index.index es leads open' w) c.items.result.now _
    (front_at c.args.refutations.now c.loop-index.index c.from-number.result c.index-refutations-number.result c.items.result.now c.from-number.ensures c.if-number-refutations.false c.index-refutations-number.is c.items.ensures)
    (c.in_err-refutation_fault.ensures.told w.child (pushed (forest c.args.checker.now) c.args.prefix.now c.loop-index.prefix c.push.new.self c.loop-index.index w c.loop-index.invariant.same c.push.ensures)))

pub loop-index-preserved : goal.loop-index-preserved
loop-index-preserved c =
    let w = smaller_way (forest c.args.checker.now) c.args.prefix.now c.args.choice c.loop-index.index (way_of (forest c.args.checker.now) c.args.prefix.now c.args.choice c.requires) c.loop-index-test.true in
    record {
      same = popped c.pop.result c.refutation_fault.new.prefix c.pop.new.self c.loop-index.prefix c.loop-index.index c.pop.ensures (c.in_ok-refutation_fault.ensures.same ∙ c.push.ensures) ∙ c.loop-index.invariant.same;
      left = λ d es leads open'. one_before c.args.checker.now.platform (terms c.args.checker.now) c.loop-index.index (take c.args.choice es) c.args.refutations.now (c.loop-index.invariant.left d es leads open') w.child
          (within_take es c.args.choice c.loop-index.index c.loop-index-test.true ∙ same_way (forest c.args.checker.now) d c.args.prefix.now c.loop-index.index es leads open' w) c.items.result.now
          (front_at c.args.refutations.now c.loop-index.index c.from-number.result c.index-refutations-number.result c.items.result.now c.from-number.ensures c.if-number-refutations.false c.index-refutations-number.is c.items.ensures)
          (c.in_ok-refutation_fault.ensures.told w.child (pushed (forest c.args.checker.now) c.args.prefix.now c.loop-index.prefix c.push.new.self c.loop-index.index w c.loop-index.invariant.same c.push.ensures));
    }

pub returns-then-from-refutations-clause-told : goal.returns-then-from-refutations-clause-told
returns-then-from-refutations-clause-told c = λ d es leads open'.
    let end : c.args.choice ≡ c.loop-index.index = omega (arith, c.loop-index-test.false, c.loop-index.auto.index-end) in
    let (items, is) = some_front c.args.refutations.now c.loop-index.index (omega (arith, end, c.if-from-refutations.true, c.from.ensures)) in
    too_many c.args.checker.now.platform (terms c.args.checker.now) c.loop-index.index (take c.args.choice es) c.args.refutations.now (c.loop-index.invariant.left d es leads open') (subst (λ k. drop k (take c.args.choice es) ≡ []) end (none_behind es c.args.choice)) items is
