-- What the items told of one child is told of what the choices leave.
use Rattle.std.proofs.Common.{◌∙◌, is_some, ap, arith}
use Rattle.verdict_claims.specs.Matter.{forest, terms}
use Rattle.sysmem_proof.proofs.Left.{of_err, child_read, child_fails, every_child}
use Rattle.sysmem_proof.proofs.Ways.{told_way, room_for, pushed, popped, opened, same_way}
use Rattle.sysmem_proof.proofs.checking.refutation_faults.+refuted_to.Goals as goal

pub push-requires : goal.push-requires
push-requires t c =
    let w = told_way (forest c.args.checker.now) c.args.prefix.now c.loop-choice.choice c.in_ok-children-in-Split.children c.in-Split.many c.requires c.in_ok-children-in-Split.ensures c.loop-choice-test.true in
    room_for (forest c.args.checker.now) c.args.prefix.now c.loop-choice.prefix c.loop-choice.choice c.few_choices.ensures w c.loop-choice.invariant.same

pub refuted_to-requires : goal.refuted_to-requires
refuted_to-requires t c =
    let w = told_way (forest c.args.checker.now) c.args.prefix.now c.loop-choice.choice c.in_ok-children-in-Split.children c.in-Split.many c.requires c.in_ok-children-in-Split.ensures c.loop-choice-test.true in (
      omega (arith, c.decreases, c.loop-choice.invariant.on, c.if-start-items.false),
      ap is_some (pushed (forest c.args.checker.now) c.args.prefix.now c.loop-choice.prefix c.push.new.self c.loop-choice.choice w c.loop-choice.invariant.same c.push.ensures),
    )

pub returns-in_err-at-in-Split-clause-told : goal.returns-in_err-at-in-Split-clause-told
returns-in_err-at-in-Split-clause-told t c = λ d ds leads.
    let w = told_way (forest c.args.checker.now) c.args.prefix.now c.loop-choice.choice c.in_ok-children-in-Split.children c.in-Split.many c.requires c.in_ok-children-in-Split.ensures c.loop-choice-test.true in
    of_err c.from_residual-in_err-at-in-Split.result _ _ _ c.from_residual-in_err-at-in-Split.ensures.1 (λ y same. same)
    (child_fails c.args.checker.now.platform (terms c.args.checker.now) c.args.items.now c.args.start c.loop-choice.at c.loop-choice.choice d w.child _ (c.loop-choice.invariant.read d leads)
    (λ es open'. same_way (forest c.args.checker.now) d c.args.prefix.now c.loop-choice.choice es leads open' w)
    (λ es. c.in_err-at-in-Split.ensures.told w.child es
    (pushed (forest c.args.checker.now) c.args.prefix.now c.loop-choice.prefix c.push.new.self c.loop-choice.choice w c.loop-choice.invariant.same c.push.ensures))
    w.alternatives ds (opened (forest c.args.checker.now) d c.args.prefix.now c.loop-choice.choice w leads))

pub loop-choice-preserved : goal.loop-choice-preserved
loop-choice-preserved t c =
    let w = told_way (forest c.args.checker.now) c.args.prefix.now c.loop-choice.choice c.in_ok-children-in-Split.children c.in-Split.many c.requires c.in_ok-children-in-Split.ensures c.loop-choice-test.true in
    record {
      same = popped c.pop.result c.refuted_to.new.prefix c.pop.new.self c.loop-choice.prefix c.loop-choice.choice c.pop.ensures (c.in_ok-at-in-Split.ensures.same ∙ c.push.ensures) ∙ c.loop-choice.invariant.same;
      on = omega (arith, c.loop-choice.invariant.on, c.in_ok-at-in-Split.ensures.on);
      read = λ d leads. child_read c.args.checker.now.platform (terms c.args.checker.now) c.args.items.now c.args.start c.loop-choice.at c.in_ok-at-in-Split.at c.loop-choice.choice d w.child
          (c.loop-choice.invariant.read d leads) (λ es open'. same_way (forest c.args.checker.now) d c.args.prefix.now c.loop-choice.choice es leads open' w)
          (λ es. c.in_ok-at-in-Split.ensures.told w.child es
          (pushed (forest c.args.checker.now) c.args.prefix.now c.loop-choice.prefix c.push.new.self c.loop-choice.choice w c.loop-choice.invariant.same c.push.ensures));
    }

pub returns-after-loop-choice-clause-told : goal.returns-after-loop-choice-clause-told
returns-after-loop-choice-clause-told t c = λ d ds leads. every_child c.args.checker.now.platform (terms c.args.checker.now) c.args.items.now c.args.start c.loop-choice.at c.loop-choice.choice
    c.in_ok-children-in-Split.children d (c.loop-choice.invariant.read d leads) (c.in_ok-children-in-Split.ensures d leads).0 c.loop-choice-test.false ds
