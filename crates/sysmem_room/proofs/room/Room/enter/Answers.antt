-- What an action adds is counted, and a domain that it makes has a cell.
use Rattle.std.proofs.Common.{◌≡◌, ◌∙◌, [], ◌∷◌, ◌++◌, Some, ap, refl, subst, sym, arith, Bool, ℕ, ◌<◌, length}
use Rattle.std.specs.Prelude.{is_some, if◌then◌else◌}
use Rattle.sysmem_tree.specs.ActionKind.{deed_of}
use Rattle.sysmem_tree.specs.Domain.{TreeFacts}
use Rattle.sysmem_alloc.specs.Book.{BookFacts}
use Rattle.sysmem_alloc.specs.Entry.{Acted}
use Rattle.sysmem_room.specs.Counting.{actions_in, nodes_by}
use Rattle.sysmem_tree.specs.Nodes.{IsTree}
use Rattle.sysmem_tree.specs.Path.{node_at}
use Rattle.node_limits.specs.Limits.{AreCounted, counts_after}
use Rattle.sysmem_room.specs.Places.{ArePlaces}
use Rattle.node_limits.proofs.CallerLemmas.{grows, acted_counted, few_tops, room_for}
use Rattle.sysmem_room.proofs.Counting.{actions_push, roots_grow}
use Rattle.sysmem_room.proofs.Placing.{acted_there, action_stays, as_many}
use Rattle.sysmem_room.proofs.room.Room.enter.Goals as goal

abbrev one_if : Bool → ℕ
one_if b = if b then 1 else 0

pub split_off-share-requires-clause-has_parts : goal.split_off-share-requires-clause-has_parts
split_off-share-requires-clause-has_parts g c =
    let (_, _, parts, _, _, _, _, _) = c.self.invariant in
    let more = grows c.self.inside.book.state.tree c.args.event.node (deed_of c.args.event.action) _ c.in_ok-done.ensures.accepted in
    let few = c.node_count.ensures.few in
    let many = c.node_count.ensures.number ∙ ap (λ (t : TreeFacts). length t.nodes) c.tree-tree.ensures in
    omega (arith, parts, more, few, many, c.parts_of-parts.ensures, ap nodes_by c.kind-kind.ensures)

pub number_of-requires : goal.number_of-requires
number_of-requires g c =
    subst (λ (t : TreeFacts). c.args.event.node < length t.nodes) (sym c.tree-tree.ensures)
    (acted_there c.self.inside.book.state.tree c.args.event.node (deed_of c.args.event.action) _ c.in_ok-done.ensures.accepted)

pub add-requires-clause-few : goal.add-requires-clause-few
add-requires-clause-few g c =
    let many = as_many _ c.history-entries.result.now c.self.inside.book.history (length c.history-entries.result.now) c.history-entries.ensures.entries refl in
    let few = c.few_entries.ensures c.self.inside.book.platform c.self.inside.book.history c.history-entries.ensures.book.legal in
    omega (arith, many, few)

pub add-requires-clause-duplicates : goal.add-requires-clause-duplicates
add-requires-clause-duplicates g c =
    let (_, _, _, _, _, _, places, _) = c.self.invariant in
    let many = as_many _ c.history-entries.result.now c.self.inside.book.history (length c.history-entries.result.now) c.history-entries.ensures.entries refl in
    let held : ArePlaces c.self.inside.book.history c.deref_mut.result.now = subst (λ p. ArePlaces c.self.inside.book.history p) (sym c.deref_mut.ensures.value) places in
    omega (arith, (held.end c.number_of.result c.number_of.ensures.few).few, many)

pub add-requires-2-clause-few : goal.add-requires-2-clause-few
add-requires-2-clause-few g c =
    let leads : node_at c.self.inside.book.state.tree.nodes c.args.path.now ≡ Some c.args.event.node = subst (λ (b : BookFacts). node_at b.state.tree.nodes c.args.path.now ≡ Some c.args.event.node) (sym c.self.view_is) c.requires.path in
    let tree : IsTree c.self.inside.book.state.tree.nodes = subst (λ (t : TreeFacts). IsTree t.nodes) c.tree.ensures c.recall_sound.ensures.tree in
    few_tops c.self.inside.book.state.tree.nodes tree c.args.path.now (ap is_some leads)

pub add-requires-2-clause-room : goal.add-requires-2-clause-room
add-requires-2-clause-room g c =
    let (_, _, _, _, _, _, _, counted) = c.self.invariant in
    let leads : node_at c.self.inside.book.state.tree.nodes c.args.path.now ≡ Some c.args.event.node = subst (λ (b : BookFacts). node_at b.state.tree.nodes c.args.path.now ≡ Some c.args.event.node) (sym c.self.view_is) c.requires.path in
    let tree : IsTree c.self.inside.book.state.tree.nodes = subst (λ (t : TreeFacts). IsTree t.nodes) c.tree.ensures c.recall_sound.ensures.tree in
    room_for c.self.inside.book.state.tree.nodes c.self.inside.offspring.counts c.args.path.now counted tree.few (few_tops c.self.inside.book.state.tree.nodes tree c.args.path.now (ap is_some leads))

pub keep-requires : goal.keep-requires
keep-requires g c = λ is_given.
    let (_, _, _, _, cells, room, _, _) = c.self.invariant in
    let more = roots_grow c.self.inside.book.state.tree c.args.event.node (deed_of c.args.event.action) _ c.in_ok-done.ensures.accepted in
    let one = ap one_if (sym c.requires.fresh ∙ is_given) in
    let many = c.domain_count.ensures.number ∙ ap (λ (t : TreeFacts). length t.domains) c.tree-tree.ensures in
    omega (arith, cells, room, more, one, many, c.domain_count.ensures.few)

pub publish_action-requires : goal.publish_action-requires
publish_action-requires g c =
    let (_, _, _, _, cells, _, _, _) = c.self.invariant in
    let more = roots_grow c.self.inside.book.state.tree c.args.event.node (deed_of c.args.event.action) _ c.in_ok-done.ensures.accepted in
    let one = ap one_if c.requires.fresh in
    omega (arith, cells, more, one, c.keep.ensures.number, c.deref_mut-2.ensures.len, ap (λ (t : TreeFacts). length t.domains) c.tree-tree.ensures)

pub invariant_of-self : goal.invariant_of-self
invariant_of-self g c =
    let (actions, amount, parts, all, cells, room, places, counted) = c.self.invariant in
    let same = c.in_err-done.ensures.unchanged in (
      ap (λ (b : BookFacts). actions_in b.history) same ∙ actions,
      amount,
      omega (arith, parts, ap (λ (b : BookFacts). length b.state.tree.nodes) same),
      all,
      cells ∙ sym (ap (λ (b : BookFacts). length b.state.tree.domains) same),
      room,
      subst (λ (b : BookFacts). ArePlaces b.history c.self.inside.places.value) (sym same) places,
      subst (λ (b : BookFacts). AreCounted b.state.tree.nodes c.self.inside.offspring.counts) (sym same) counted,
    )

pub invariant_of-self-2 : goal.invariant_of-self-2
invariant_of-self-2 g c =
    let (actions, amount, parts, all, cells, room, places, counted) = c.self.invariant in
    let more = grows c.self.inside.book.state.tree c.args.event.node (deed_of c.args.event.action) _ c.in_ok-done.ensures.accepted in
    let domains = roots_grow c.self.inside.book.state.tree c.args.event.node (deed_of c.args.event.action) _ c.in_ok-done.ensures.accepted in
    let push = actions_push c.self.inside.book.history (Acted c.args.event.node (deed_of c.args.event.action)) in
    let many = as_many _ c.history-entries.result.now c.self.inside.book.history (length c.history-entries.result.now) c.history-entries.ensures.entries refl in
    let few = c.few_entries.ensures c.self.inside.book.platform c.self.inside.book.history c.history-entries.ensures.book.legal in
    let history = ap (λ (b : BookFacts). actions_in b.history) c.in_ok-done.ensures.entered in
    let held = subst (λ p. ArePlaces c.self.inside.book.history p) (sym c.deref_mut.ensures.value) places in
    let after = c.apply.new.self.state.tree in
    let leads : node_at c.self.inside.book.state.tree.nodes c.args.path.now ≡ Some c.args.event.node = subst (λ (b : BookFacts). node_at b.state.tree.nodes c.args.path.now ≡ Some c.args.event.node) (sym c.self.view_is) c.requires.path in
    let was_tree : IsTree c.self.inside.book.state.tree.nodes = subst (λ (t : TreeFacts). IsTree t.nodes) c.tree.ensures c.recall_sound.ensures.tree in
    let tree : IsTree after.nodes = subst (λ (t : TreeFacts). IsTree t.nodes) c.tree-tree.ensures c.node_count.ensures.sound.tree in (
      history ∙ omega (arith, push, actions, c.add-3.ensures.total),
      omega (arith, amount, c.split_off-share.ensures.amount_left),
      omega (arith, parts, more, c.split_off-share.ensures.parts_left, c.parts_of-parts.ensures, ap nodes_by c.kind-kind.ensures),
      all,
      omega (arith, cells, domains, ap one_if c.requires.fresh, c.keep.ensures.number),
      omega (arith, room, c.keep.ensures.room),
      subst (λ (b : BookFacts). ArePlaces b.history c.add.new.self) (sym c.in_ok-done.ensures.entered)
          (subst (λ i. ArePlaces (c.self.inside.book.history ++ Acted i (deed_of c.args.event.action) ∷ []) c.add.new.self) c.number_of.ensures.number
          (action_stays c.self.inside.book.history c.deref_mut.result.now c.add.new.self c.number_of.result (length c.history-entries.result.now) (deed_of c.args.event.action) many c.number_of.ensures.few
          (omega (arith, many, few)) c.add.ensures.last c.add.ensures.before (λ is. c.add.ensures.again (c.kind-kind.ensures ∙ is))
          (λ is. c.add.ensures.other (λ same. is (sym c.kind-kind.ensures ∙ same))) held)),
      subst (AreCounted after.nodes) (sym (c.add-2.ensures ∙ ap (counts_after c.self.inside.offspring.counts c.args.path.now) c.kind-kind.ensures))
          (acted_counted c.one_path.ensures c.self.inside.book.state.tree c.args.event.node (deed_of c.args.event.action) _ c.args.path.now c.self.inside.offspring.counts was_tree tree
          c.in_ok-done.ensures.still leads c.in_ok-done.ensures.accepted counted),
    )
