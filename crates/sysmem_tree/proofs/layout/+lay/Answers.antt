-- A child in front of the siblings that follow it.
use Rattle.std.proofs.Common.{◌≡◌, ◌<◌, suc, length, ◌-◌, arith, ◌∙◌}
use Rattle.sysmem_tree.proofs.layout.+lay.Goals as goal
use Rattle.sysmem_tree.proofs.layouts.Layouts.{kid_laid_as, set_above}
use Rattle.sysmem_tree.proofs.forests.Linking.{stands_at}
use Rattle.sysmem_tree.proofs.layouts.Marking.{hold_written}

pub lay-rest-requires : goal.lay-rest-requires
lay-rest-requires t c =
    let at = stands_at c.args.nodes.now c.args.links.now c.args.what.first c.in-Some.own c.requires.tree c.requires.links c.in-Some.is in
    (omega (arith, c.decreases, at.next_fewer), (c.requires.tree, ((at.root, at.are, at.next_below), (c.requires.end, omega (arith, c.requires.room, at.long)))))

pub offset_bounds-nodes-number : goal.offset_bounds-nodes-number
offset_bounds-nodes-number t c =
    let at = stands_at c.args.nodes.now c.args.links.now c.args.what.first c.in-Some.own c.requires.tree c.requires.links c.in-Some.is in omega (arith, at.within, at.few)

pub bounds-nodes-number : goal.bounds-nodes-number
bounds-nodes-number t c =
    let at = stands_at c.args.nodes.now c.args.links.now c.args.what.first c.in-Some.own c.requires.tree c.requires.links c.in-Some.is in at.within

pub offset_bounds-links-number-2 : goal.offset_bounds-links-number-2
offset_bounds-links-number-2 t c =
    let at = stands_at c.args.nodes.now c.args.links.now c.args.what.first c.in-Some.own c.requires.tree c.requires.links c.in-Some.is in omega (arith, at.within, at.few)

pub bounds-links-number-2 : goal.bounds-links-number-2
bounds-links-number-2 t c =
    let at = stands_at c.args.nodes.now c.args.links.now c.args.what.first c.in-Some.own c.requires.tree c.requires.links c.in-Some.is in omega (arith, at.within, at.few)

pub lay-kids-requires : goal.lay-kids-requires
lay-kids-requires t c =
    let at = stands_at c.args.nodes.now c.args.links.now c.args.what.first c.in-Some.own c.requires.tree c.requires.links c.in-Some.is in
    let long = c.lay-rest.ensures.laid.long in
    (omega (arith, c.decreases, at.kids_fewer), (c.requires.tree, ((at.root, at.are, at.kids_below), (omega (arith, c.requires.end, long), omega (arith, c.requires.room, at.long, long)))))

pub overflow_sub-start : goal.overflow_sub-start
overflow_sub-start t c =
    let at = stands_at c.args.nodes.now c.args.links.now c.args.what.first c.in-Some.own c.requires.tree c.requires.links c.in-Some.is in
    let long = c.lay-rest.ensures.laid.long in
    let below = c.lay-kids.ensures.laid.long in omega (arith, c.requires.room, at.long, long, below)

pub returns-clause-laid : goal.returns-clause-laid
returns-clause-laid t c =
    let at = stands_at c.args.nodes.now c.args.links.now c.args.what.first c.in-Some.own c.requires.tree c.requires.links c.in-Some.is in
    let below = c.lay-kids.ensures.laid.long in
    let long = c.lay-rest.ensures.laid.long in
    let before : suc (c.lay-kids.result.start - 1) ≡ c.lay-kids.result.start = omega (arith, c.requires.room, at.long, long, below) in
    kid_laid_as c.args.what.is_group c.lay-rest.new.places c.lay-kids.new.places c.in-Some.own c.args.what.end c.args.what.next _ _ c.lay-kids.result c.lay-rest.result
    c.lay-rest.ensures.laid c.lay-kids.ensures.kept (c.lay-kids.result.start - 1) before (omega (arith, before, below, long, c.requires.end, c.lay-kids.array_long))
    c.index-nodes-number.result.state.kind c.has_alternatives-is_group.result c.has_alternatives-is_group.ensures c.either-next.result c.either.result c.either-next.ensures c.either.ensures
    _ (at.tree c.index-nodes-number.result c.index-nodes-number.is) c.lay-kids.ensures.laid

pub returns-clause-kept : goal.returns-clause-kept
returns-clause-kept t c = λ k p.
    let at = stands_at c.args.nodes.now c.args.links.now c.args.what.first c.in-Some.own c.requires.tree c.requires.links c.in-Some.is in
    let below = c.lay-kids.ensures.laid.long in
    let long = c.lay-rest.ensures.laid.long in
    let up : c.lay-kids.result.start - 1 < k = omega (arith, c.requires.room, at.long, long, below, p) in
    set_above c.lay-kids.new.places (c.lay-kids.result.start - 1) _ k up
    ∙ (c.lay-kids.ensures.kept k (omega (arith, p, long)) ∙ c.lay-rest.ensures.kept k p)

pub returns-clause-numbers : goal.returns-clause-numbers
returns-clause-numbers t c = λ all.
    let at = stands_at c.args.nodes.now c.args.links.now c.args.what.first c.in-Some.own c.requires.tree c.requires.links c.in-Some.is in
    hold_written (length c.args.nodes.now) c.lay-kids.new.places (c.lay-kids.result.start - 1) _ (c.lay-kids.ensures.numbers (c.lay-rest.ensures.numbers all)) at.within
