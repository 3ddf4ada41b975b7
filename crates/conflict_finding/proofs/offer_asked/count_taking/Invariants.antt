-- Each of the first takes the offer.
use Rattle.std.proofs.Common.{take}
use Rattle.std.specs.Prelude.{All}
use Rattle.verdict_claims.specs.Members.{members_at, participants}
use Rattle.conflict_finding.specs.OfferAsked.{TakesOffer}
use Rattle.conflict_finding.proofs.offer_asked.count_taking.Given as goal

abbrev pub invariant-loop-index : goal.invariant-loop-index
invariant-loop-index l = All (TakesOffer l.offer) (participants (members_at l.tree.nodes (take l.index l.row)))
