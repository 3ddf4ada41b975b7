-- The open group after the choices so far, and the place of the child that the next choice takes.
use Rattle.std.proofs.Common.{[], subst}
use Rattle.sysmem_tree.specs.Forest.{settled}
use Rattle.sysmem_tree.specs.OpenGroups.{IsFirstOpen}
use Rattle.sysmem_tree.specs.Shape.{by_number, forest_of}
use Rattle.workbench.proofs.rows.walking.walk.Goals as goal

pub push_nodes-requires-clause-left : goal.push_nodes-requires-clause-left
push_nodes-requires-clause-left c =
    let d = forest_of by_number c.args.tree.now.nodes c.args.domain [] in
    (settled d, c.settled_first.ensures d c.layout-layout.ensures.lays)

pub open_after-open-requires : goal.open_after-open-requires
open_after-open-requires c =
    let d = forest_of by_number c.args.tree.now.nodes c.args.domain [] in
    let (cs, h) = c.loop-choice.invariant in
    (d, cs, _, c.in_ok-child.ensures.child d cs (subst (IsFirstOpen c.layout-layout.result d cs) c.in-Some.is h))

pub loop-choice-preserved : goal.loop-choice-preserved
loop-choice-preserved c =
    let d = forest_of by_number c.args.tree.now.nodes c.args.domain [] in
    let (cs, h) = c.loop-choice.invariant in
    (_, c.open_after-open.ensures d cs _ (c.in_ok-child.ensures.child d cs (subst (IsFirstOpen c.layout-layout.result d cs) c.in-Some.is h)))
