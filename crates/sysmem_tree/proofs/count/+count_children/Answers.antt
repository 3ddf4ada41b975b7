-- The counts of a child and of the siblings that follow it, together.
use Rattle.std.proofs.Common.{◌∙◌, ap, min, None, arith}
use Rattle.std.specs.Prelude.{slice_index_or}
use Rattle.sysmem_tree.specs.Layout.{count_as}
use Rattle.sysmem_tree.specs.Links.{siblings_from}
use Rattle.sysmem_tree.proofs.count.+count_children.Goals as goal
use Rattle.sysmem_tree.proofs.forests.Linking.{stands_at}
use Rattle.sysmem_tree.proofs.forests.Numbers.{counted_as_alternatives, counted_as_plain}

pub count_children-rest-requires : goal.count_children-rest-requires
count_children-rest-requires t c =
    let at = stands_at c.args.nodes.now c.args.links.now c.args.first c.in-Some.own c.requires.tree c.requires.links c.in-Some.is in
    (omega (arith, c.decreases, at.next_fewer), (c.requires.tree, (at.root, at.are, at.next_below)))

pub offset_bounds-nodes-number : goal.offset_bounds-nodes-number
offset_bounds-nodes-number t c =
    let at = stands_at c.args.nodes.now c.args.links.now c.args.first c.in-Some.own c.requires.tree c.requires.links c.in-Some.is in omega (arith, at.within, at.few)

pub bounds-nodes-number : goal.bounds-nodes-number
bounds-nodes-number t c =
    let at = stands_at c.args.nodes.now c.args.links.now c.args.first c.in-Some.own c.requires.tree c.requires.links c.in-Some.is in at.within

pub offset_bounds-links-number-2 : goal.offset_bounds-links-number-2
offset_bounds-links-number-2 t c =
    let at = stands_at c.args.nodes.now c.args.links.now c.args.first c.in-Some.own c.requires.tree c.requires.links c.in-Some.is in omega (arith, at.within, at.few)

pub bounds-links-number-2 : goal.bounds-links-number-2
bounds-links-number-2 t c =
    let at = stands_at c.args.nodes.now c.args.links.now c.args.first c.in-Some.own c.requires.tree c.requires.links c.in-Some.is in omega (arith, at.within, at.few)

pub count_children-own-requires : goal.count_children-own-requires
count_children-own-requires t c =
    let at = stands_at c.args.nodes.now c.args.links.now c.args.first c.in-Some.own c.requires.tree c.requires.links c.in-Some.is in
    (omega (arith, c.decreases, at.kids_fewer), (c.requires.tree, (at.root, at.are, at.kids_below)))

pub returns-then-is_group-2 : goal.returns-then-is_group-2
returns-then-is_group-2 t c =
    let at = stands_at c.args.nodes.now c.args.links.now c.args.first c.in-Some.own c.requires.tree c.requires.links c.in-Some.is in
    c.saturating_add.ensures
    ∙ counted_as_alternatives c.index-nodes-number.result.state.kind c.in-Some.own _ _ _ c.count_children-own.result c.count_children-rest.result
    (at.tree c.index-nodes-number.result c.index-nodes-number.is)
    (c.count_children-own.ensures ∙ ap (λ g. min (count_as g (siblings_from c.args.nodes.now (slice_index_or c.args.links.now.first c.in-Some.own None))) 18446744073709551615) c.has_alternatives-is_alternatives.ensures)
    c.args.is_group c.if-is_group-2.true c.count_children-rest.ensures

pub returns-else-is_group-2 : goal.returns-else-is_group-2
returns-else-is_group-2 t c =
    let at = stands_at c.args.nodes.now c.args.links.now c.args.first c.in-Some.own c.requires.tree c.requires.links c.in-Some.is in
    c.saturating_mul.ensures
    ∙ counted_as_plain c.index-nodes-number.result.state.kind c.in-Some.own _ _ _ c.count_children-own.result c.count_children-rest.result
    (at.tree c.index-nodes-number.result c.index-nodes-number.is)
    (c.count_children-own.ensures ∙ ap (λ g. min (count_as g (siblings_from c.args.nodes.now (slice_index_or c.args.links.now.first c.in-Some.own None))) 18446744073709551615) c.has_alternatives-is_alternatives.ensures)
    c.args.is_group c.if-is_group-2.false c.count_children-rest.ensures
