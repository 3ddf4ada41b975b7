-- One more of which nobody was asked.
use Rattle.std.proofs.Common.{sym, subst}
use Rattle.std.specs.Prelude.{All}
use Rattle.conflict_finding.specs.OfferAsked.{IsOfferAsked}
use Rattle.conflict_finding.proofs.SameOnes.{one_pushed}
use Rattle.conflict_finding.proofs.offers_asked.fill.Goals as goal

pub loop-more-preserved : goal.loop-more-preserved
loop-more-preserved c = λ nodes row was.
    one_pushed (IsOfferAsked nodes row) c.loop-more.offers.items _ _ c.in_ok-push.ensures.items (c.loop-more.invariant nodes row was) (c.new.ensures.asked nodes row)

pub returns-in_err-push : goal.returns-in_err-push
returns-in_err-push c = λ nodes row was. subst (All (IsOfferAsked nodes row)) (sym c.in_err-push.ensures.items) (c.loop-more.invariant nodes row was)
