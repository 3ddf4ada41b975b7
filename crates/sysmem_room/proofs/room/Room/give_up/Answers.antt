-- A decision changes no count.
use Rattle.std.proofs.Common.{◌∙◌, arith, ap, subst, sym, length}
use Rattle.sysmem_alloc.specs.Book.{BookFacts}
use Rattle.sysmem_tree.specs.Domain.{TreeFacts}
use Rattle.sysmem_room.specs.Places.{ArePlaces}
use Rattle.sysmem_room.proofs.Counting.{decides}
use Rattle.node_limits.proofs.CallerLemmas.{still_counted}
use Rattle.sysmem_room.proofs.Placing.{decision_stays}
use Rattle.sysmem_room.proofs.room.Room.give_up.Goals as goal

pub publish_decision-requires : goal.publish_decision-requires
publish_decision-requires g c =
    let (_, _, _, _, cells, _, _, _) = c.self.invariant in
    let (_, _, domains) = decides c.self.inside.book _ _ c.decide.ensures.entered in
    omega (arith, c.deref_mut.ensures.len, cells, domains, ap (λ (t : TreeFacts). length t.domains) c.tree.ensures)

pub invariant_of-self : goal.invariant_of-self
invariant_of-self g c =
    let (actions, amount, parts, all, cells, room, places, counted) = c.self.invariant in
    let (same, many, domains) = decides c.self.inside.book _ _ c.decide.ensures.entered in (
      same ∙ actions,
      amount,
      omega (arith, parts, many),
      all,
      cells ∙ sym domains,
      room,
      subst (λ (b : BookFacts). ArePlaces b.history c.self.inside.places.value) (sym c.decide.ensures.entered) (decision_stays c.self.inside.book.history _ c.self.inside.places.value places),
      still_counted c.self.inside.book.state.tree.nodes _ c.self.inside.offspring.counts c.decide.ensures.still many counted,
    )
