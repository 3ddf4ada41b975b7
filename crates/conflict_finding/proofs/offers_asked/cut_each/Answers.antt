-- One offer more.
use Rattle.std.proofs.Common.{arith}
use Rattle.std.proofs.lemmas.Option.{slice_get-get_or}
use Rattle.conflict_finding.specs.OfferAsked.{IsOfferAsked}
use Rattle.conflict_finding.proofs.FrontReads.{all_done, none_done, one_done}
use Rattle.conflict_finding.proofs.offers_asked.cut_each.Goals as goal

pub loop-one-init : goal.loop-one-init
loop-one-init c nodes row other same few was = none_done (IsOfferAsked nodes other) (IsOfferAsked nodes row) c.args.offers.now was

pub loop-one-preserved : goal.loop-one-preserved
loop-one-preserved c nodes row other same few was =
    one_done (IsOfferAsked nodes other) (IsOfferAsked nodes row) c.loop-one.one-index c.loop-one.offers _ _
    (slice_get-get_or c.loop-one.offers c.loop-one.one-index _ (omega (arith, c.loop-one-test.true)))
    (λ is. c.cut.ensures nodes row other same few is) (c.loop-one.invariant nodes row other same few was)

pub returns : goal.returns
returns c nodes row other same few was =
    all_done (IsOfferAsked nodes other) (IsOfferAsked nodes row) c.loop-one.one-index c.loop-one.offers (omega (arith, c.loop-one-test.false)) (c.loop-one.invariant nodes row other same few was)
