-- One choice more.
use Rattle.std.proofs.Common.{[], length, take, get_or, refl, sym, ◌∙◌, ap, subst, arith}
use Rattle.std.proofs.lemmas.List.{take_more, take_all}
use Rattle.sysmem_proof.proofs.Gathering.{AreGathered, first_gathered, more_gathered, more_few, few_settled, all_gathered, members_there, prefix_more}
use Rattle.sysmem_tree.specs.OpenGroups.{IsFirstOpen, share_of}
use Rattle.sysmem_tree.specs.Forest.{settled}
use Rattle.sysmem_tree.specs.Selection.{IsPrefix}
use Rattle.sysmem_tree.specs.Shape.{by_number, forest_of}
use Rattle.sysmem_proof.proofs.checking.members.settled_members.Goals as goal
use Rattle.sysmem_tree.proofs.CallerLemmas.{some_open}

pub gather-requires : goal.gather-requires
gather-requires c =
    let nodes = c.args.tree.now.nodes in
    let d = forest_of by_number nodes c.args.domain [] in
    let few = few_settled nodes c.args.domain c.recall_sound.ensures.tree.few (λ cs. c.members_stand_once.ensures nodes c.args.domain cs c.recall_sound.ensures.tree c.requires.domain) [] d refl in
    let none = ap length c.none-members.ensures in
    (settled d, c.settled_first.ensures d c.layout-layout.ensures.lays, omega (arith, few, none))

pub loop-choice-init : goal.loop-choice-init
loop-choice-init c =
    let nodes = c.args.tree.now.nodes in
    let d = forest_of by_number nodes c.args.domain [] in
    first_gathered c.layout-layout.result d _ _ _ c.none-members.ensures (c.gather.ensures (settled d) (c.settled_first.ensures d c.layout-layout.ensures.lays)) (c.first_open-group.ensures d c.layout-layout.ensures.lays)

pub child_at-child-requires : goal.child_at-child-requires
child_at-child-requires c =
    let d = forest_of by_number c.args.tree.now.nodes c.args.domain [] in
    let cs = c.choices-choice-items.result.now in
    let g = c.loop-choice.invariant in
    let prefix = prefix_more c.prefix_of_prefix.ensures d cs c.loop-choice.choice-index c.loop-choice-test.true (subst (IsPrefix d) (sym c.choices-choice-items.ensures) c.requires.prefix) in
    (d, take c.loop-choice.choice-index cs, subst (IsFirstOpen c.layout-layout.result d (take c.loop-choice.choice-index cs)) c.in-Some.is g.first, prefix)

pub returns-in_default-clause-order : goal.returns-in_default-clause-order
returns-in_default-clause-order c =
    let d = forest_of by_number c.args.tree.now.nodes c.args.domain [] in
    let cs = c.choices-choice-items.result.now in
    let g = c.loop-choice.invariant in
    let prefix = prefix_more c.prefix_of_prefix.ensures d cs c.loop-choice.choice-index c.loop-choice-test.true (subst (IsPrefix d) (sym c.choices-choice-items.ensures) c.requires.prefix) in
    absurd (some_open c.layout-layout.result d (take c.loop-choice.choice-index cs) (get_or cs c.loop-choice.choice-index 0) c.none_open_is_selection.ensures prefix
    (subst (IsFirstOpen c.layout-layout.result d (take c.loop-choice.choice-index cs)) c.in_default.is g.first))

pub returns-in_default-clause-there : goal.returns-in_default-clause-there
returns-in_default-clause-there c =
    let d = forest_of by_number c.args.tree.now.nodes c.args.domain [] in
    let cs = c.choices-choice-items.result.now in
    let g = c.loop-choice.invariant in
    let prefix = prefix_more c.prefix_of_prefix.ensures d cs c.loop-choice.choice-index c.loop-choice-test.true (subst (IsPrefix d) (sym c.choices-choice-items.ensures) c.requires.prefix) in
    absurd (some_open c.layout-layout.result d (take c.loop-choice.choice-index cs) (get_or cs c.loop-choice.choice-index 0) c.none_open_is_selection.ensures prefix
    (subst (IsFirstOpen c.layout-layout.result d (take c.loop-choice.choice-index cs)) c.in_default.is g.first))

pub gather-requires-in-loop-choice : goal.gather-requires-in-loop-choice
gather-requires-in-loop-choice c =
    let nodes = c.args.tree.now.nodes in
    let d = forest_of by_number nodes c.args.domain [] in
    let cs = c.choices-choice-items.result.now in
    let k = c.loop-choice.choice-index in
    let g = c.loop-choice.invariant in
    let prefix = prefix_more c.prefix_of_prefix.ensures d cs k c.loop-choice-test.true (subst (IsPrefix d) (sym c.choices-choice-items.ensures) c.requires.prefix) in
    let child = c.child_at-child.ensures.child d (take k cs) (subst (IsFirstOpen c.layout-layout.result d (take k cs)) c.in-Some.is g.first) prefix in (
      share_of c.layout-layout.result c.child_at-child.result,
      c.settled_with.ensures,
      more_few c.layout-layout.result d (take k cs) _ _ g c.choice_settles_share.ensures (get_or cs c.loop-choice.choice-index 0) c.child_at-child.result child
          (few_settled nodes c.args.domain c.recall_sound.ensures.tree.few (λ cs. c.members_stand_once.ensures nodes c.args.domain cs c.recall_sound.ensures.tree c.requires.domain)),
    )

pub open_after-group-requires : goal.open_after-group-requires
open_after-group-requires c =
    let d = forest_of by_number c.args.tree.now.nodes c.args.domain [] in
    let cs = c.choices-choice-items.result.now in
    let k = c.loop-choice.choice-index in
    let g = c.loop-choice.invariant in
    let prefix = prefix_more c.prefix_of_prefix.ensures d cs k c.loop-choice-test.true (subst (IsPrefix d) (sym c.choices-choice-items.ensures) c.requires.prefix) in
    (d, take k cs, (get_or cs c.loop-choice.choice-index 0), c.child_at-child.ensures.child d (take k cs) (subst (IsFirstOpen c.layout-layout.result d (take k cs)) c.in-Some.is g.first) prefix)

pub loop-choice-preserved : goal.loop-choice-preserved
loop-choice-preserved c =
    let d = forest_of by_number c.args.tree.now.nodes c.args.domain [] in
    let cs = c.choices-choice-items.result.now in
    let k = c.loop-choice.choice-index in
    let g = c.loop-choice.invariant in
    let prefix = prefix_more c.prefix_of_prefix.ensures d cs k c.loop-choice-test.true (subst (IsPrefix d) (sym c.choices-choice-items.ensures) c.requires.prefix) in
    let child = c.child_at-child.ensures.child d (take k cs) (subst (IsFirstOpen c.layout-layout.result d (take k cs)) c.in-Some.is g.first) prefix in
    let longer = take_more cs k 0 c.loop-choice-test.true in
    subst (λ xs. AreGathered c.layout-layout.result d xs c.gather-in-loop-choice.new.members c.open_after-group.result) (sym longer)
    (more_gathered c.layout-layout.result d (take k cs) _ _ g c.choice_settles_share.ensures (get_or cs c.loop-choice.choice-index 0) c.child_at-child.result child _ _
    (c.gather-in-loop-choice.ensures (share_of c.layout-layout.result c.child_at-child.result) c.settled_with.ensures) (c.open_after-group.ensures d (take k cs) (get_or cs c.loop-choice.choice-index 0) child))

pub returns-clause-order : goal.returns-clause-order
returns-clause-order c =
    let nodes = c.args.tree.now.nodes in
    let d = forest_of by_number nodes c.args.domain [] in
    let cs = c.choices-choice-items.result.now in
    all_gathered nodes c.args.domain c.layout-layout.result c.args.prefix.now _ _
    (subst (λ xs. AreGathered c.layout-layout.result d xs c.loop-choice.members c.loop-choice.group)
    (take_all c.loop-choice.choice-index cs (omega (arith, c.loop-choice-test.false)) ∙ c.choices-choice-items.ensures) c.loop-choice.invariant)

pub returns-clause-there : goal.returns-clause-there
returns-clause-there c =
    let nodes = c.args.tree.now.nodes in
    let d = forest_of by_number nodes c.args.domain [] in
    let cs = c.choices-choice-items.result.now in
    members_there nodes c.args.domain c.args.prefix.now _ (c.members_stand_once.ensures nodes c.args.domain c.args.prefix.now c.recall_sound.ensures.tree c.requires.domain)
    (all_gathered nodes c.args.domain c.layout-layout.result c.args.prefix.now _ _
    (subst (λ xs. AreGathered c.layout-layout.result d xs c.loop-choice.members c.loop-choice.group)
    (take_all c.loop-choice.choice-index cs (omega (arith, c.loop-choice-test.false)) ∙ c.choices-choice-items.ensures) c.loop-choice.invariant))
