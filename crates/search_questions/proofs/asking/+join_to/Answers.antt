-- The level above has the pairs first.
use Rattle.std.proofs.Common.{◌-◌, Some, ◌∙◌, ap, arith}
use Rattle.std.specs.Option.{option_copied}
use Rattle.search_questions.proofs.Entering.{at_index}
use Rattle.search_questions.proofs.Standing.{filled_at, item_read, joined_to, some_read}
use Rattle.search_questions.proofs.asking.+join_to.Goals as goal

pub returns-in_default-clause-stands : goal.returns-in_default-clause-stands
returns-in_default-clause-stands t c = λ m layout cs within few keeps.
    let level = c.index-level.result.now in
    let (part, is) = filled_at m layout c.args.parts.now c.args.levels.now.items cs keeps c.args.depth (c.args.depth - 1) (omega (arith, c.if-depth-eq0.false)) within level
    (at_index c.args.levels.now.items c.args.depth level c.index-level.ensures c.requires.there) in
    let (item, item_is, part_is) = some_read c.args.parts.now level.slot (Some part) c.get.result c.get.ensures.lookup is in
    let none = c.in_default.is in absurd (cc)

pub returns-in_default-2-clause-stands : goal.returns-in_default-2-clause-stands
returns-in_default-2-clause-stands t c = λ m layout cs within few keeps.
    let level = c.index-level.result.now in
    let (part, is) = filled_at m layout c.args.parts.now c.args.levels.now.items cs keeps c.args.depth (c.args.depth - 1) (omega (arith, c.if-depth-eq0.false)) within level
    (at_index c.args.levels.now.items c.args.depth level c.index-level.ensures c.requires.there) in
    let (item, item_is, part_is) = some_read c.args.parts.now level.slot (Some part) c.get.result c.get.ensures.lookup is in
    let none = c.in_default.is in absurd (cc)

pub returns-clause-stands : goal.returns-clause-stands
returns-clause-stands t c =
    let level = c.index-level.result.now in
    joined_to c.args.parts.now c.args.levels.now.items c.join_to.new.levels.items c.join_below.new.levels.items c.args.depth (c.args.depth - 1) c.args.pairs c.in-Some-Some.part level
    (omega (arith, c.if-depth-eq0.false)) c.join_to.ensures.stands c.join_to.ensures.same c.join_below.ensures.same c.join_below.ensures.joined
    (at_index c.args.levels.now.items c.args.depth level c.index-level.ensures c.requires.there)
    (item_read c.args.parts.now level.slot c.get.result c.get.ensures.lookup ∙ (ap option_copied c.in-Some-Some.is ∙ ap Some c.in-Some-Some.field-0-is))
