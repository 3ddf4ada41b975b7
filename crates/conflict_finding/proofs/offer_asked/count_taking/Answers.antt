-- One more takes it, or they end.
use Rattle.std.proofs.Common.{sym, ◌∙◌, subst, arith, take_all}
use Rattle.std.specs.Prelude.{All}
use Rattle.verdict_claims.specs.Members.{members_at, participants}
use Rattle.conflict_finding.specs.OfferAsked.{TakesOffer}
use Rattle.conflict_finding.proofs.FirstOnes.{all_more}
use Rattle.conflict_finding.proofs.offer_asked.count_taking.Goals as goal

pub loop-index-preserved : goal.loop-index-preserved
loop-index-preserved c = all_more c.args.tree.now.nodes c.args.row.now c.requires.there c.loop-index.index c.index-row-index.result (omega (arith, c.loop-index-test.true)) c.index-row-index.is _ c.constraints_of.ensures
    (TakesOffer c.args.offer.now) c.loop-index.invariant (c.takes_offer.ensures c.if-not-takes_offer.false)

pub returns : goal.returns
returns c = subst (λ ns. All (TakesOffer c.args.offer.now) (participants (members_at c.args.tree.now.nodes ns)))
    (take_all c.loop-index.index c.args.row.now (omega (arith, c.loop-index-test.false)) ∙ sym (take_all _ c.args.row.now (omega (arith, c.max.ensures)))) c.loop-index.invariant
