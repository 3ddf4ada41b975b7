use Rattle.std.proofs.Common.{arith, Some, None, length, ◌<◌}
use Rattle.std.proofs.lemmas.Option.{slice_get_within}
use Rattle.sysmem_formats.specs.Offers.{offers}
use Rattle.sysmem_merge.proofs.Many.{offer_read, new_more, new_all, none_past}
use Rattle.sysmem_merge.proofs.offers.kept_offers.Goals as goal

pub loop-offer-smaller : goal.loop-offer-smaller
loop-offer-smaller c =
    let here = offer_read c.args.platform.now.pairs _ c.args.platform.now.colours _ c.loop-offer.index (Some c.in-Some.offer) c.pairs.ensures.pairs c.colours.ensures.colours c.in-Some.ensures in
    let more : c.loop-offer.index < length (offers c.args.platform.now.pairs c.args.platform.now.colours) = slice_get_within (offers c.args.platform.now.pairs c.args.platform.now.colours) c.loop-offer.index c.in-Some.offer here in
    omega (arith, more)

pub loop-offer-preserved : goal.loop-offer-preserved
loop-offer-preserved c =
    let here = offer_read c.args.platform.now.pairs _ c.args.platform.now.colours _ c.loop-offer.index (Some c.in-Some.offer) c.pairs.ensures.pairs c.colours.ensures.colours c.in-Some.ensures in
    rw c.in_ok-push.ensures.items (new_more c.loop-offer.index (offers c.args.platform.now.pairs c.args.platform.now.colours) c.loop-offer.kept.items c.in-Some.offer c.new.result here c.new.ensures c.loop-offer.invariant)

pub returns : goal.returns
returns c =
    let past = offer_read c.args.platform.now.pairs _ c.args.platform.now.colours _ c.loop-offer.index None c.pairs.ensures.pairs c.colours.ensures.colours c.in_default.ensures in
    new_all c.loop-offer.index (offers c.args.platform.now.pairs c.args.platform.now.colours) c.loop-offer.kept.items (none_past (offers c.args.platform.now.pairs c.args.platform.now.colours) c.loop-offer.index past) c.loop-offer.invariant
