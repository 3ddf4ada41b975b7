-- A history stays eager where a decision is given up.
use Rattle.sysmem_alloc.specs.State.{next_ready}
use Rattle.live_book.proofs.Eager.{given_up_eagerly}
use Rattle.live_book.proofs.Quotas.{given_up_quota}
use Rattle.live_book.proofs.deciding.give_up.Goals as goal

pub invariant_of-collection : goal.invariant_of-collection
invariant_of-collection c =
    let (eager, quota) = c.collection.invariant in
    let next = next_ready c.collection.inside.book.state in (
      given_up_eagerly next c.collection.inside.book c.give_up_in.new.book eager c.give_up_in.ensures.none c.give_up_in.ensures.entered,
      given_up_quota c.give_up_in.result next c.collection.inside.book c.give_up_in.new.book c.collection.inside.quota c.give_up_in.ensures.waits c.give_up_in.ensures.still c.give_up_in.ensures.none
          c.give_up_in.ensures.entered quota,
    )
