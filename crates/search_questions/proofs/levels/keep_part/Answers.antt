-- The part stands in its child's slot.
use Rattle.std.proofs.Common.{Some, ◌∙◌, ap}
use Rattle.search_questions.proofs.Entering.{at_index, only_slot, some_there}
use Rattle.search_questions.proofs.levels.keep_part.Goals as goal

pub returns-then-is_some-clause-there : goal.returns-then-is_some-clause-there
returns-then-is_some-clause-there c = λ slot own.
    let (part, is) = some_there c.index.result.now c.is_some.result c.is_some.ensures c.if-is_some.true in
    let here = at_index c.reserve_slot.new.parts.items c.slot_of-slot.result c.index.result.now c.index.ensures c.in_ok-reserve_slot.ensures.there in
    (part, only_slot c.reserve_slot.new.parts.items c.args.child slot c.slot_of-slot.result (Some part) own c.slot_of-slot.ensures (here ∙ ap Some is))

pub returns-clause-parts : goal.returns-clause-parts
returns-clause-parts c = λ are. c.read_part.ensures.parts (λ place slot part own here. are place slot part own (c.reserve_slot.ensures.kept slot part here))

pub returns-clause-filled : goal.returns-clause-filled
returns-clause-filled c = λ at filled. c.read_part.ensures.filled at (c.reserve_slot.ensures.filled at filled)
