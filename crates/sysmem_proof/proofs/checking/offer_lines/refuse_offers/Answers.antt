-- One offer and its line more.
use Rattle.std.proofs.Common.{◌≡◌, ◌+◌, ◌-◌, true, ◌∙◌, ap, subst, arith, get_or, slice_get}
use Rattle.negotiation_inputs.specs.Platform.{offers_of}
use Rattle.verdict_claims.specs.Conflict.{RefusesOffer}
use Rattle.verdict_claims.specs.Fault.{AreNamed}
use Rattle.verdict_claims.specs.Roll.{listed}
use Rattle.sysmem_proof.proofs.Numbering.{at_line, same_there}
use Rattle.sysmem_proof.proofs.Past.{same_offers, offer_past, offer_stops, line_without, if_none}
use Rattle.sysmem_proof.proofs.checking.offer_lines.refuse_offers.Goals as goal

pub returns-in_default : goal.returns-in_default
returns-in_default c = (
  λ is. absurd (cc),
  λ zip. absurd (line_without c.args.whole (listed c.args.roll.now) (offers_of c.args.platform.now) c.args.lines.now c.loop-index.index c.loop-index.invariant.left c.loop-index-test.true
      (same_offers _ _ _ _ c.loop-index.index c.offer_at.result c.pairs-pairs.ensures.pairs c.colours-colours.ensures.colours c.offer_at.ensures ∙ c.in_default.is) zip),
)

pub refuses_behind-requires-clause-named : goal.refuses_behind-requires-clause-named
refuses_behind-requires-clause-named c = at_line (λ line. AreNamed (listed c.args.roll.now) line.nodes) c.args.lines.now c.loop-index.index c.index-lines-index.result c.loop-index-test.true c.index-lines-index.is c.requires

pub refuses_behind-requires-clause-before : goal.refuses_behind-requires-clause-before
refuses_behind-requires-clause-before c = λ some. c.loop-index.invariant.before some c.index-lines-saturating_sub.result
    (subst (λ k. c.index-lines-saturating_sub.result ≡ get_or c.args.lines.now k c.index-lines-saturating_sub.result) c.saturating_sub.ensures c.index-lines-saturating_sub.is)

pub returns-then-not-refuses_behind : goal.returns-then-not-refuses_behind
returns-then-not-refuses_behind c = (
  λ is. absurd (cc),
  λ zip. absurd (offer_stops c.args.whole (listed c.args.roll.now) (offers_of c.args.platform.now) c.args.lines.now c.loop-index.index c.loop-index.invariant.left c.index-lines-index.result c.loop-index-test.true c.index-lines-index.is
      c.in-Some.offer (same_offers _ _ _ _ c.loop-index.index c.offer_at.result c.pairs-pairs.ensures.pairs c.colours-colours.ensures.colours c.offer_at.ensures ∙ c.in-Some.is)
      (λ refuses. (let yes' : c.refuses_behind.result ≡ true = c.refuses_behind.ensures.1 refuses in let no' = c.if-not-refuses_behind.true in absurd (cc))) zip),
)

pub loop-index-preserved : goal.loop-index-preserved
loop-index-preserved c =
    let refuses = c.refuses_behind.ensures.0 c.if-not-refuses_behind.false in
    let here : c.loop-index.index + 1 - 1 ≡ c.loop-index.index = omega arith in
    record {
      left = offer_past c.args.whole (listed c.args.roll.now) (offers_of c.args.platform.now) c.args.lines.now c.loop-index.index c.loop-index.invariant.left c.index-lines-index.result c.loop-index-test.true
          c.index-lines-index.is c.in-Some.offer (same_offers _ _ _ _ c.loop-index.index c.offer_at.result c.pairs-pairs.ensures.pairs c.colours-colours.ensures.colours c.offer_at.ensures ∙ c.in-Some.is) refuses;
      before = λ some line is. subst (RefusesOffer c.args.whole (listed c.args.roll.now) c.in-Some.offer) (same_there c.args.lines.now c.loop-index.index c.index-lines-index.result line c.loop-index-test.true
          c.index-lines-index.is (subst (λ k. line ≡ get_or c.args.lines.now k line) here is)) refuses;
    }

pub returns : goal.returns
returns c = if_none c.args.whole (listed c.args.roll.now) (offers_of c.args.platform.now) c.args.lines.now c.loop-index.index c.loop-index.invariant.left c.offer_at-2.result c.is_none.result (omega (arith, c.loop-index-test.false))
    (ap (λ k. slice_get (offers_of c.args.platform.now) k) (omega (arith, c.loop-index-test.false, c.loop-index.auto.index-end))
    ∙ same_offers _ _ _ _ _ c.offer_at-2.result c.pairs-pairs.ensures.pairs c.colours-colours.ensures.colours c.offer_at-2.ensures) c.is_none.ensures
