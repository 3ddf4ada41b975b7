-- One offer more is refused, or the lines end.
use Rattle.std.proofs.Common.{◌≡◌, ◌≢◌, ◌<◌, length, Some, inl, inr, sym, ap, subst, arith}
use Rattle.std.specs.List.{AllZip}
use Rattle.std.proofs.lemmas.Option.{slice_get_within}
use Rattle.sysmem_formats.specs.declared.offer.Offer.{Offer}
use Rattle.negotiation_inputs.specs.Platform.{offers_of}
use Rattle.verdict_claims.specs.FirstConflict.{IsOfferLineGiven}
use Rattle.conflict_finding.specs.Askers.{AreAskers}
use Rattle.conflict_finding.specs.Refusals.{Ends, EndsAt, ShareOffer}
use Rattle.verdict_claims.proofs.SameOffer.{is_before, is_until}
use Rattle.conflict_finding.proofs.Sofar.{all_offers, ends_at_offer, last_pushed, offer_read, one_offer}
use Rattle.conflict_finding.proofs.refusals.refused_offers.Goals as goal

pub returns-then-eq-clause-lines : goal.returns-then-eq-clause-lines
returns-then-eq-clause-lines c = λ ms stand.
    let here = offer_read c.args.those.now.platform.now _ _ c.pairs.ensures.pairs c.colours.ensures.colours _ c.loop-offer.lines _ (ap length c.as_slice.ensures) c.in-Some.ensures in
    let same : c.args.until ≡ Some c.in-Some.offer = is_until c.args.until c.in-Some.offer c.if-eq.ensures in
    ends_at_offer (IsOfferLineGiven c.args.those.now.whole ms) (Ends c.args.until (λ (o : Offer). o) (ShareOffer c.args.those.now.whole ms)) (offers_of c.args.those.now.platform.now) c.loop-offer.lines c.in-Some.offer
    (sym here) (c.loop-offer.invariant.so_far ms stand) (inl same)

pub returns-then-not-branch-clause-lines : goal.returns-then-not-branch-clause-lines
returns-then-not-branch-clause-lines c = λ ms stand.
    let here = offer_read c.args.those.now.platform.now _ _ c.pairs.ensures.pairs c.colours.ensures.colours _ c.loop-offer.lines _ (ap length c.as_slice.ensures) c.in-Some.ensures in
    let other : c.args.until ≢ Some c.in-Some.offer = is_before c.args.until c.in-Some.offer c.if-eq.ensures in
    let end = c.in_ok-push_offer.ensures.share ms stand c.if-not-branch.true in
    subst (EndsAt (IsOfferLineGiven c.args.those.now.whole ms) (Ends c.args.until (λ (o : Offer). o) (ShareOffer c.args.those.now.whole ms)) (offers_of c.args.those.now.platform.now)) (sym end.0)
    (ends_at_offer (IsOfferLineGiven c.args.those.now.whole ms) (Ends c.args.until (λ (o : Offer). o) (ShareOffer c.args.those.now.whole ms)) (offers_of c.args.those.now.platform.now) c.loop-offer.lines c.in-Some.offer
    (sym here) (c.loop-offer.invariant.so_far ms stand) (inr (other, end.1)))

pub settle-requires-clause-askers : goal.settle-requires-clause-askers
settle-requires-clause-askers c = subst (AreAskers c.args.those.now.tree.now.nodes c.args.those.now.nodes.now) (sym c.deref.ensures.value) c.in_ok-asking.ensures

pub push_offer-requires-clause-last : goal.push_offer-requires-clause-last
push_offer-requires-clause-last c = c.loop-offer.invariant.last

pub loop-offer-smaller : goal.loop-offer-smaller
loop-offer-smaller c =
    let here = offer_read c.args.those.now.platform.now _ _ c.pairs.ensures.pairs c.colours.ensures.colours _ c.loop-offer.lines _ (ap length c.as_slice.ensures) c.in-Some.ensures in
    let more : length c.loop-offer.lines < length (offers_of c.args.those.now.platform.now) = slice_get_within (offers_of c.args.those.now.platform.now) (length c.loop-offer.lines) c.in-Some.offer (sym here) in
    omega (arith, more, c.in_ok-push_offer.ensures.longer c.if-not-branch.false)

pub loop-offer-preserved : goal.loop-offer-preserved
loop-offer-preserved c = record {
  so_far = λ ms stand.
      let here = offer_read c.args.those.now.platform.now _ _ c.pairs.ensures.pairs c.colours.ensures.colours _ c.loop-offer.lines _ (ap length c.as_slice.ensures) c.in-Some.ensures in
      let one = c.in_ok-push_offer.ensures.more ms stand c.if-not-branch.false in
      one_offer (IsOfferLineGiven c.args.those.now.whole ms) (offers_of c.args.those.now.platform.now) c.loop-offer.lines _ c.in-Some.offer one.line (sym here) one.added (c.loop-offer.invariant.so_far ms stand) one.is;
  learnt = c.push_offer.ensures.learnt;
  named = c.in_ok-push_offer.ensures.named;
  asked = c.push_offer.ensures.asked;
  last = λ ms stand image last at.
      let one = c.in_ok-push_offer.ensures.more ms stand c.if-not-branch.false in
      subst (IsOfferLineGiven c.args.those.now.whole ms c.in-Some.offer) (last_pushed c.loop-offer.lines _ one.line last one.added at) one.is;
}

pub returns-clause-lines : goal.returns-clause-lines
returns-clause-lines c = λ ms stand.
    let past = offer_read c.args.those.now.platform.now _ _ c.pairs.ensures.pairs c.colours.ensures.colours _ c.loop-offer.lines _ (ap length c.as_slice.ensures) c.in_default.ensures in
    subst (AllZip (IsOfferLineGiven c.args.those.now.whole ms) (offers_of c.args.those.now.platform.now)) (sym c.in_ok-fitted.ensures)
    (all_offers (IsOfferLineGiven c.args.those.now.whole ms) (offers_of c.args.those.now.platform.now) c.loop-offer.lines (sym past) (c.loop-offer.invariant.so_far ms stand))
