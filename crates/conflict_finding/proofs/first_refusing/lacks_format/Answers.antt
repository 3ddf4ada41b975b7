-- Who doesn't take the format makes that line true.
use Rattle.std.proofs.Common.{◌≡◌, [], true, false, sym}
use Rattle.std.proofs.lemmas.List.Elements.{All-nil, All-cons}
use Rattle.list_lemmas.proofs.CallerLemmas.{Any-here}
use Rattle.offer_fits.specs.Demands.{OfferDemand, offer_demand}
use Rattle.offer_fits.specs.Offers.{has_format}
use Rattle.conflict_finding.proofs.FirstOnes.{is_false, is_true}
use Rattle.conflict_finding.proofs.first_refusing.lacks_format.Goals as goal

pub returns-in-Some-clause-line : goal.returns-in-Some-clause-line
returns-in-Some-clause-line c = λ lacks. rw (c.in-Some.is)
    (Any-here (λ (d : OfferDemand). has_format c.args.offer.now d ≡ false) (offer_demand c.in-Some.one.now) []
    (is_false c.has_format.result _ (c.has_format.ensures (offer_demand c.in-Some.one.now) (sym c.entries.ensures.entries)) lacks))

pub returns-in-Some-clause-takes : goal.returns-in-Some-clause-takes
returns-in-Some-clause-takes c = λ takes. rw (c.in-Some.is)
    (All-cons (λ p. has_format c.args.offer.now (offer_demand p) ≡ true) c.in-Some.one.now []
    (is_true c.has_format.result _ (c.has_format.ensures (offer_demand c.in-Some.one.now) (sym c.entries.ensures.entries)) takes) (All-nil (λ p. has_format c.args.offer.now (offer_demand p) ≡ true)))
