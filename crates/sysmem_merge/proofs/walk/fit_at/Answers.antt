use Rattle.std.proofs.Common.{◌≡◌}
use Rattle.sysmem_merge.proofs.FirstFits.{offer_read}
use Rattle.sysmem_merge.proofs.walk.fit_at.Goals as goal

pub returns-clause-none : goal.returns-clause-none
returns-clause-none c o ds here kept sizes =
    let same : o ≡ c.in_ok-offer.offer = offer_read c.args.platform.now c.pairs.result.now c.colours.result.now c.args.index c.offer_at.result o c.in_ok-offer.offer
    c.pairs.ensures.pairs c.colours.ensures.colours c.offer_at.ensures c.in_ok-offer.was here in
    rw same (c.fit_of.ensures.none ds (rw same at kept) sizes)
