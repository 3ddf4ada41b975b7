-- One place after the other.
use Rattle.std.proofs.Common.{◌<◌, ◌++◌, ℕ, List, refl, length, sym, ap, ◌∙◌, arith, length-append}
use Rattle.std.specs.Prelude.{filter}
use Rattle.sysmem_tree.specs.Members.{is_marked}
use Rattle.sysmem_tree.proofs.layouts.Marking.{nowhere}
use Rattle.sysmem_tree.proofs.layouts.Picking.{all_kept, all_of_layout, nodes_from, room_on}
use Rattle.sysmem_tree.proofs.tree.Tree.add_marked.Goals as goal

pub push_reserved-requires : goal.push_reserved-requires
push_reserved-requires c =
    let (d, laid, room) = c.requires.room in
    let less : c.loop-at.at < length c.args.layout.now.places = omega (arith, c.type_inv.layout, c.loop-at-test.true) in
    let test = is_marked c.args.self.now.nodes c.args.marks.now in
    let whole : List ℕ = c.args.nodes.now.items ++ filter test (nodes_from c.args.layout.now.places c.args.layout.now.start) in
    let more = room_on test c.args.layout.now.places c.loop-at.at c.loop-at.nodes.items whole nowhere _ less refl (sym c.is_marked.ensures ∙ c.if-is_marked.true) c.loop-at.invariant.way in
    let same = ap (λ ns. length (filter test ns)) (all_of_layout c.args.layout.now d c.loop-at.invariant.way.long laid) in
    omega (arith, room, more, same, length-append c.args.nodes.now.items (filter test (nodes_from c.args.layout.now.places c.args.layout.now.start)), c.loop-at.invariant.reserved, c.loop-at.nodes.ok)

pub returns-clause-nodes : goal.returns-clause-nodes
returns-clause-nodes c = λ d laid.
    all_kept (is_marked c.args.self.now.nodes c.args.marks.now) c.args.layout.now.places c.loop-at.at c.loop-at.nodes.items _ (omega (arith, c.loop-at-test.false)) c.loop-at.invariant.way
    ∙ ap (λ ns. c.args.nodes.now.items ++ filter (is_marked c.args.self.now.nodes c.args.marks.now) ns) (all_of_layout c.args.layout.now d c.loop-at.invariant.way.long laid)
