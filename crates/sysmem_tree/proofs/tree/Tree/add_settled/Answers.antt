-- See layouts/Picking.antt.
use Rattle.std.proofs.Common.{◌++◌, length, refl, ◌∙◌, ap, subst, arith}
use Rattle.sysmem_tree.specs.Domain.{IsSoundTree}
use Rattle.sysmem_tree.proofs.layouts.NextGroups.{prefix_of_places}
use Rattle.sysmem_tree.proofs.layouts.Picking.{layout_participants}
use Rattle.sysmem_tree.proofs.tree.Tree.add_settled.Goals as goal

pub marks_after-marks-requires-clause-prefix : goal.marks_after-marks-requires-clause-prefix
marks_after-marks-requires-clause-prefix c =
    let (r, chosen, room) = c.requires.room in (_, chosen.lays, prefix_of_places c.args.layout.now _ chosen.lays _ _ refl chosen.prefix)

pub marks_after-marks-requires-clause-numbers : goal.marks_after-marks-requires-clause-numbers
marks_after-marks-requires-clause-numbers c = λ k p is.
    let sound = subst IsSoundTree c.self.view_is c.self.invariant.0 in
    let less = c.requires.nodes k p is in omega (arith, less, sound.tree.few)

pub add_marked-requires-clause-few : goal.add_marked-requires-clause-few
add_marked-requires-clause-few c = (subst IsSoundTree c.self.view_is c.self.invariant.0).tree.few

pub add_marked-requires-clause-room : goal.add_marked-requires-clause-room
add_marked-requires-clause-room c =
    let sound = subst IsSoundTree c.self.view_is c.self.invariant.0 in
    let (r, chosen, room) = c.requires.room in
    let found = layout_participants c.args.layout.now c.args.self.now.nodes r c.args.choices.now c.marks_after-marks.result sound.tree chosen.there chosen.lays chosen.prefix
    (c.marks_after-marks.ensures _ chosen.lays) in
    let same = ap length found in
    (_, chosen.lays, omega (arith, same, room))

pub returns-clause-nodes : goal.returns-clause-nodes
returns-clause-nodes c = λ r chosen.
    let sound = subst IsSoundTree c.self.view_is c.self.invariant.0 in
    let found = layout_participants c.args.layout.now c.args.self.now.nodes r c.args.choices.now c.marks_after-marks.result sound.tree chosen.there chosen.lays chosen.prefix
    (c.marks_after-marks.ensures _ chosen.lays) in
    c.add_marked.ensures.nodes _ chosen.lays ∙ ap (λ ns. c.args.nodes.now.items ++ ns) found
