-- What is true of what was frozen is right for a book that still has that.
use Rattle.std.proofs.Common.{◌∙◌, arith, ap, subst, sym, length}
use Rattle.std.specs.Arc.{arc_value}
use Rattle.sysmem_alloc.specs.Book.{BookFacts}
use Rattle.sysmem_alloc.specs.Claims.{IsRightClaim}
use Rattle.sysmem_alloc.specs.Frozen.{IsStill}
use Rattle.sysmem_alloc.specs.State.{base_of}
use Rattle.sysmem_tree.specs.Domain.{TreeFacts}
use Rattle.sysmem_room.specs.Places.{ArePlaces}
use Rattle.sysmem_room.proofs.Counting.{decides}
use Rattle.node_limits.proofs.CallerLemmas.{still_counted}
use Rattle.sysmem_room.proofs.Placing.{decision_stays}
use Rattle.sysmem_room.proofs.Still.{still_right}
use Rattle.sysmem_room.proofs.room.Room.decide.Goals as goal

pub decide-requires-clause-right : goal.decide-requires-clause-right
decide-requires-clause-right g c =
    let still = subst (λ b. IsStill b c.args.frozen) (sym c.self.view_is) c.requires.still in
    let right = still_right c.self.inside.book c.args.frozen (arc_value c.args.claim) still c.requires.right in
    subst (λ r. IsRightClaim c.self.inside.book.platform c.self.inside.book.state.tree.nodes r (base_of c.self.inside.book.state r) (arc_value c.args.copy)) (sym c.domain-domain.ensures.domain)
    (subst (λ claim. IsRightClaim c.self.inside.book.platform c.self.inside.book.state.tree.nodes c.args.frozen.domain (base_of c.self.inside.book.state c.args.frozen.domain) claim) (sym c.requires.same) right)

pub publish_decision-requires : goal.publish_decision-requires
publish_decision-requires g c =
    let (_, _, _, _, cells, _, _, _) = c.self.invariant in
    let (_, _, domains) = decides c.self.inside.book _ _ c.decide.ensures.entered in
    omega (arith, c.deref_mut.ensures.len, cells, domains, ap (λ (t : TreeFacts). length t.domains) c.tree.ensures)

pub invariant_of-self : goal.invariant_of-self
invariant_of-self g c =
    let (actions, amount, parts, all, cells, room, places, counted) = c.self.invariant in
    let (same, many, domains) = decides c.self.inside.book _ _ c.decide.ensures.entered in (
      same ∙ actions,
      amount,
      omega (arith, parts, many),
      all,
      cells ∙ sym domains,
      room,
      subst (λ (b : BookFacts). ArePlaces b.history c.self.inside.places.value) (sym c.decide.ensures.entered) (decision_stays c.self.inside.book.history _ c.self.inside.places.value places),
      still_counted c.self.inside.book.state.tree.nodes _ c.self.inside.offspring.counts c.decide.ensures.still many counted,
    )
