-- One choice more.
use Rattle.std.proofs.Common.{take, get_or, sym, subst, arith}
use Rattle.std.proofs.lemmas.List.{take_more, take_all}
use Rattle.sysmem_tree.specs.OpenGroups.{IsFirstOpen}
use Rattle.sysmem_tree.proofs.selections.Prefixes.{none_for, no_child, a_child, all_made}
use Rattle.sysmem_tree.proofs.settled.is_prefix.Goals as goal

pub returns-in_default : goal.returns-in_default
returns-in_default c = λ d laid.
    let open' = subst (IsFirstOpen c.args.layout.now d (take c.loop-choice.choice-index c.args.choices.now)) c.in_default.is (c.loop-choice.invariant d laid) in
    none_for c.args.layout.now d c.args.choices.now c.loop-choice.choice-index c.loop-choice-test.true open'

pub group_at-children-requires : goal.group_at-children-requires
group_at-children-requires c =
    let (d, laid) = c.requires in
    let front = take c.loop-choice.choice-index c.args.choices.now in
    (d, front, subst (IsFirstOpen c.args.layout.now d front) c.in-Some.is (c.loop-choice.invariant d laid))

pub returns-then-from-children : goal.returns-then-from-children
returns-then-from-children c = λ d laid.
    let front = take c.loop-choice.choice-index c.args.choices.now in
    let open' = subst (IsFirstOpen c.args.layout.now d front) c.in-Some.is (c.loop-choice.invariant d laid) in
    no_child c.args.layout.now d c.args.choices.now c.loop-choice.choice-index c.loop-choice-test.true _ open' _ _ (c.group_at-children.ensures.group d front open')
    (omega (arith, c.from.ensures, c.if-from-children.true))

pub child_at-requires : goal.child_at-requires
child_at-requires c =
    let (d, laid) = c.requires in
    let front = take c.loop-choice.choice-index c.args.choices.now in
    let open' = subst (IsFirstOpen c.args.layout.now d front) c.in-Some.is (c.loop-choice.invariant d laid) in (
      d,
      front,
      open',
      a_child c.args.layout.now d c.args.choices.now c.loop-choice.choice-index c.loop-choice-test.true _ open' _ _ (c.group_at-children.ensures.group d front open')
          (omega (arith, c.from.ensures, c.if-from-children.false)),
    )

pub open_after-group-requires : goal.open_after-group-requires
open_after-group-requires c =
    let (d, laid) = c.requires in
    let front = take c.loop-choice.choice-index c.args.choices.now in
    let open' = subst (IsFirstOpen c.args.layout.now d front) c.in-Some.is (c.loop-choice.invariant d laid) in
    let prefix = a_child c.args.layout.now d c.args.choices.now c.loop-choice.choice-index c.loop-choice-test.true _ open' _ _ (c.group_at-children.ensures.group d front open')
    (omega (arith, c.from.ensures, c.if-from-children.false)) in
    (d, front, get_or c.args.choices.now c.loop-choice.choice-index 0, c.child_at.ensures.child d front open' prefix)

pub loop-choice-preserved : goal.loop-choice-preserved
loop-choice-preserved c = λ d laid.
    let cs = c.args.choices.now in
    let k = c.loop-choice.choice-index in
    let front = take k cs in
    let open' = subst (IsFirstOpen c.args.layout.now d front) c.in-Some.is (c.loop-choice.invariant d laid) in
    let prefix = a_child c.args.layout.now d cs k c.loop-choice-test.true _ open' _ _ (c.group_at-children.ensures.group d front open') (omega (arith, c.from.ensures, c.if-from-children.false)) in
    subst (λ xs. IsFirstOpen c.args.layout.now d xs c.open_after-group.result) (sym (take_more cs k 0 c.loop-choice-test.true))
    (c.open_after-group.ensures d front (get_or cs k 0) (c.child_at.ensures.child d front open' prefix))

pub returns : goal.returns
returns c = λ d laid. all_made c.args.layout.now d c.args.choices.now c.loop-choice.group
    (subst (λ xs. IsFirstOpen c.args.layout.now d xs c.loop-choice.group) (take_all c.loop-choice.choice-index c.args.choices.now (omega (arith, c.loop-choice-test.false))) (c.loop-choice.invariant d laid))
