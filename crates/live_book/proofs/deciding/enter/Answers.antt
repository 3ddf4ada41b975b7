-- The collection's book is the one in which it is entered.
use Rattle.std.proofs.Common.{◌≡◌, ◌⊎◌, None, false, subst}
use Rattle.std.specs.Prelude.{IsTrue}
use Rattle.sysmem_alloc.specs.Decision.{Claimed}
use Rattle.sysmem_alloc.specs.Frozen.{IsStill}
use Rattle.live_book.specs.Collection.{CollectionFacts}
use Rattle.live_book.proofs.Eager.{entered_eagerly}
use Rattle.live_book.proofs.Quotas.{entered_quota}
use Rattle.live_book.proofs.deciding.enter.Goals as goal

pub invariant_of-collection : goal.invariant_of-collection
invariant_of-collection c =
    let (eager, quota) = c.collection.invariant in
    let made : Claimed = record { domain = c.args.decision.frozen.domain; claim = c.args.decision.claim } in (
      entered_eagerly c.enter_in.result c.collection.inside.book c.enter_in.new.book made eager c.enter_in.ensures.entered c.enter_in.ensures.unchanged,
      entered_quota c.enter_in.result c.collection.inside.book c.enter_in.new.book made c.collection.inside.quota c.enter_in.ensures.still c.enter_in.ensures.entered c.enter_in.ensures.unchanged quota,
    )

pub returns-clause-fits : goal.returns-clause-fits
returns-clause-fits c = subst (λ (x : CollectionFacts). IsTrue c.enter_in.result → IsStill x.book c.args.decision.frozen) c.collection.view_is c.enter_in.ensures.fits

pub returns-clause-stays : goal.returns-clause-stays
returns-clause-stays c = subst (λ (x : CollectionFacts). c.enter_in.result ≡ false → (c.args.decision.claim ≡ None) ⊎ (¬ IsStill x.book c.args.decision.frozen)) c.collection.view_is c.enter_in.ensures.stays
