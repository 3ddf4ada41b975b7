-- By the entries of who is there.
use Rattle.std.proofs.Common.{[], sym}
use Rattle.std.proofs.lemmas.List.Elements.{All-nil, All-cons}
use Rattle.conflict_finding.specs.OfferAsked.{TakesOffer}
use Rattle.conflict_finding.proofs.offer_asked.takes_offer.Goals as goal

pub returns-in-Some : goal.returns-in-Some
returns-in-Some c = rw (c.in-Some.is) (λ yes'. All-cons (TakesOffer c.args.offer.now) c.in-Some.one.now [] (c.takes.ensures c.in-Some.one.now (sym c.entries.ensures.entries) yes') (All-nil (TakesOffer c.args.offer.now)))

pub returns-in-None : goal.returns-in-None
returns-in-None c = rw (c.in-None.is) (λ _. All-nil (TakesOffer c.args.offer.now))
