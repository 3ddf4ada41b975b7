-- What `==` calls equal is equal.
use Rattle.std.proofs.lemmas.Bool.Decides.{Decides-at}
use Rattle.verdict_claims.proofs.SameOffer.{same_offer}
use Rattle.conflict_finding.proofs.offer_asked.OfferAsked.is_of.Goals as goal

pub returns : goal.returns
returns c = (Decides-at c.eq.result _ c.eq.ensures (same_offer c.args.self.now.offer c.args.offer.now)).0
