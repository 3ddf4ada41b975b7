-- One offer more.
use Rattle.std.proofs.Common.{◌≡◌, true, ◌+◌, Some, None, length, slice_get, take, sym, subst, arith}
use Rattle.std.specs.List.{AllZip}
use Rattle.verdict_claims.specs.Conflict.{RefusesOffer}
use Rattle.verdict_claims.specs.Roll.{listed}
use Rattle.negotiation_inputs.specs.Platform.{offers_of}
use Rattle.sysmem_proof.proofs.Left.{of_err}
use Rattle.verdict_claims.proofs.Equal.{offer_cases}
use Rattle.sysmem_proof.proofs.OffersFirst.{held, over, missing, fails_at, inside, none_more, offer_read}
use Rattle.sysmem_proof.proofs.LineByLine.{told_more, front_more}
use Rattle.sysmem_proof.proofs.checking.offers_before.offers_before_fault.Goals as goal

pub returns-then-is_offer_at : goal.returns-then-is_offer_at
returns-then-is_offer_at c = over offer_cases c.args.settings.now.offer (offers_of c.args.platform.now) c.requires (RefusesOffer true (listed c.args.roll.now)) (listed c.args.roll.now) c.args.lines.now
    c.loop-index.index c.loop-index.invariant.none c.loop-index.invariant.told (c.is_offer_at.ensures.0 c.if-is_offer_at.true) c.loop-index-test.true

pub returns-in_default : goal.returns-in_default
returns-in_default c = absurd (inside offer_cases c.args.settings.now.offer (offers_of c.args.platform.now) c.requires (RefusesOffer true (listed c.args.roll.now)) (listed c.args.roll.now) c.args.lines.now
    c.loop-index.index c.loop-index.invariant.none c.loop-index.invariant.told
    (offer_read c.args.platform.now _ _ c.loop-index.index None c.pairs.ensures.pairs c.colours.ensures.colours c.in_default.ensures))

pub returns-in_err-offer_fault : goal.returns-in_err-offer_fault
returns-in_err-offer_fault c =
    let here = offer_read c.args.platform.now _ _ c.loop-index.index (Some c.in-Some.offer) c.pairs.ensures.pairs c.colours.ensures.colours c.in-Some.ensures in
    of_err c.from_residual.result _ _ _ c.from_residual.ensures.1 (λ y same. same) (fails_at offer_cases c.args.settings.now.offer (offers_of c.args.platform.now) c.requires (RefusesOffer true (listed c.args.roll.now)) (listed c.args.roll.now) c.args.lines.now
    c.loop-index.index c.loop-index.invariant.none c.loop-index.invariant.told c.in-Some.offer c.index-lines-index.result _ here
    (λ is. (let yes' = c.is_offer_at.ensures.1 is in let no' = c.if-is_offer_at.false in absurd (cc))) c.loop-index-test.true c.index-lines-index.is c.in_err-offer_fault.ensures)

pub loop-index-preserved : goal.loop-index-preserved
loop-index-preserved c =
    let here = offer_read c.args.platform.now _ _ c.loop-index.index (Some c.in-Some.offer) c.pairs.ensures.pairs c.colours.ensures.colours c.in-Some.ensures in
    let k = c.loop-index.index in
    let os = offers_of c.args.platform.now in record {
      none = none_more os c.args.settings.now.offer c.in-Some.offer k here (λ is. (let yes' = c.is_offer_at.ensures.1 is in let no' = c.if-is_offer_at.false in absurd (cc))) c.loop-index.invariant.none;
      told = subst (λ xs. AllZip (RefusesOffer true (listed c.args.roll.now)) xs (take (k + 1) c.args.lines.now)) (sym (front_more os k c.in-Some.offer here))
          (told_more (RefusesOffer true (listed c.args.roll.now)) (take k os) c.args.lines.now k c.in-Some.offer c.index-lines-index.result c.loop-index-test.true c.index-lines-index.is c.in_ok-offer_fault.ensures c.loop-index.invariant.told);
    }

pub returns-then-not-is_offer_at : goal.returns-then-not-is_offer_at
returns-then-not-is_offer_at c =
    let os = offers_of c.args.platform.now in
    let end : c.loop-index.index ≡ length c.args.lines.now = omega (arith, c.loop-index-test.false, c.loop-index.auto.index-end) in
    missing offer_cases c.args.settings.now.offer os c.requires (RefusesOffer true (listed c.args.roll.now)) (listed c.args.roll.now) c.args.lines.now
    c.loop-index.index c.loop-index.invariant.none c.loop-index.invariant.told
    (λ is. (let yes' = c.is_offer_at-2.ensures.1 (subst (λ n. slice_get os n ≡ Some c.args.settings.now.offer) end is) in let no' = c.if-not-is_offer_at.true in absurd (cc))) c.loop-index-test.false

pub returns : goal.returns
returns c =
    let os = offers_of c.args.platform.now in
    let end : c.loop-index.index ≡ length c.args.lines.now = omega (arith, c.loop-index-test.false, c.loop-index.auto.index-end) in
    held offer_cases c.args.settings.now.offer os c.requires (RefusesOffer true (listed c.args.roll.now)) (listed c.args.roll.now) c.args.lines.now
    c.loop-index.index c.loop-index.invariant.none c.loop-index.invariant.told
    (subst (λ n. slice_get os n ≡ Some c.args.settings.now.offer) (sym end) (c.is_offer_at-2.ensures.0 c.if-not-is_offer_at.false)) c.loop-index-test.false
