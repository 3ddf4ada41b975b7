-- The part stands in its child's slot.
use Rattle.std.proofs.Common.{Some}
use Rattle.search_questions.proofs.Entering.{only_slot, part_kept, part_there, set_again, set_filled}
use Rattle.sysmem_tree.specs.OpenGroups.{share_of}
use Rattle.search_questions.proofs.levels.read_part.Goals as goal

pub returns-in-Some-clause-parts : goal.returns-in-Some-clause-parts
returns-in-Some-clause-parts c = rw (set_again c.args.parts.now.items c.args.slot (Some c.in_ok-new.field-0) (Some c.add_settled.new.part))
    (part_kept c.args.subject.now c.args.layout.now c.args.parts.now.items c.args.child c.args.slot
    c.add_settled.new.part c.requires.slot (c.add_settled.ensures (share_of c.args.layout.now c.args.child) c.settled_with-walk.ensures))

pub returns-in-Some-clause-there : goal.returns-in-Some-clause-there
returns-in-Some-clause-there c = λ own is. (
  c.add_settled.new.part,
  only_slot _ c.args.child own c.args.slot (Some c.add_settled.new.part) is c.requires.slot
      (rw (set_again c.args.parts.now.items c.args.slot (Some c.in_ok-new.field-0) (Some c.add_settled.new.part)) (part_there c.args.parts.now.items c.args.slot c.add_settled.new.part c.requires.room)),
)

pub returns-in-Some-clause-filled : goal.returns-in-Some-clause-filled
returns-in-Some-clause-filled c = rw (set_again c.args.parts.now.items c.args.slot (Some c.in_ok-new.field-0) (Some c.add_settled.new.part))
    (λ at filled. set_filled c.args.parts.now.items c.args.slot at c.add_settled.new.part filled)
