use Rattle.std.proofs.Common.{arith, ◌≡◌, Some, slice_get, below_more}
use Rattle.sysmem_formats.specs.declared.offer.Offer.{Offer}
use Rattle.sysmem_merge.specs.Reasons.{IsOfferRefused}
use Rattle.negotiation_inputs.specs.Platform.{offers_of}
use Rattle.sysmem_merge.proofs.FirstFits.{kept_at, place_of, first_from}
use Rattle.sysmem_merge.proofs.walk.first_fit.Goals as goal

pub returns-in-Some-clause-first : goal.returns-in-Some-clause-first
returns-in-Some-clause-first c ds stands sizes =
    let os = offers_of c.args.platform.now in
    let one = c.index-kept-index.result in
    let many = stands.many in
    first_from c.args.whole os ds c.loop-index.index c.in-Some.fit (omega arith)
    (λ o here. c.in-Some.ensures.best o ds here (kept_at os ds c.args.kept.now c.loop-index.index one o stands (omega arith) c.index-kept-index.is here) sizes)
    (λ o here. c.in-Some.ensures.named o ds here (kept_at os ds c.args.kept.now c.loop-index.index one o stands (omega arith) c.index-kept-index.is here))
    (c.loop-index.invariant ds stands sizes)

pub loop-index-preserved : goal.loop-index-preserved
loop-index-preserved c ds stands sizes k o below offered =
    let os = offers_of c.args.platform.now in
    below_more (λ j. (p : Offer) → slice_get os j ≡ Some p → IsOfferRefused c.args.whole p ds) c.loop-index.index
    (λ j before p here. c.loop-index.invariant ds stands sizes j p before here)
    (λ p here. c.in_default.ensures.none p ds here (kept_at os ds c.args.kept.now c.loop-index.index c.index-kept-index.result p stands (omega arith) c.index-kept-index.is here) sizes)
    k below o offered

pub returns-clause-none : goal.returns-clause-none
returns-clause-none c ds stands sizes o has =
    let at = place_of (offers_of c.args.platform.now) o has in
    let many = stands.many in
    let within = at.1 in
    c.loop-index.invariant ds stands sizes at.0 o (omega arith) at.2
