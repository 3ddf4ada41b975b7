-- Lines for all offers that name participants.
use Rattle.verdict_claims.specs.Roll.{listed}
use Rattle.sysmem_proof.proofs.Telling.{untrue_lines}
use Rattle.sysmem_proof.proofs.checking.conflict_faults.offers_fault.Goals as goal

pub refuse_offers-requires : goal.refuse_offers-requires
refuse_offers-requires c = c.all_named.ensures.0 c.if-not-all_named.false

pub returns-then-not-refuse_offers : goal.returns-then-not-refuse_offers
returns-then-not-refuse_offers c = untrue_lines _ (listed c.args.roll.now) _ c.args.lines.now c.refuse_offers.result
    (c.has_offers.ensures.0 c.if-not-has_offers.false) (c.all_named.ensures.0 c.if-not-all_named.false) c.if-not-refuse_offers.true c.refuse_offers.ensures.1
