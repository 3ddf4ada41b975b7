-- Where all take the offer, each takes its colour space.
use Rattle.std.proofs.Common.{◌≡◌, ◌⊎◌, inr}
use Rattle.std.specs.Prelude.{All, IsTrue}
use Rattle.std.proofs.lemmas.List.Elements.{All-weaker}
use Rattle.sysmem_counts.specs.declared.field.Field.TheVariants.{ColorSpaces, PixelFormat}
use Rattle.offer_fits.specs.Demands.{offer_demand}
use Rattle.verdict_claims.specs.Members.{members_at, participants}
use Rattle.conflict_finding.specs.OfferAsked.{TakesOffer}
use Rattle.conflict_finding.specs.Reading.{TakesIn}
use Rattle.conflict_finding.proofs.FoundNodes.{if_ok}
use Rattle.conflict_finding.proofs.refusals.is_before_colour.Goals as goal

pub returns-in_default-clause-before : goal.returns-in_default-clause-before
returns-in_default-clause-before c =
    if_ok c.all_take.result (λ take. IsTrue take → All (TakesOffer c.args.offer.now) (participants (members_at c.args.tree.now.nodes c.args.nodes.now)))
    (λ before. IsTrue before → (c.args.field ≡ PixelFormat) ⊎ All (λ p. TakesIn ColorSpaces c.args.offer.now (offer_demand p)) (participants (members_at c.args.tree.now.nodes c.args.nodes.now)))
    (λ _ all yes'. inr (All-weaker (TakesOffer c.args.offer.now) (λ p. TakesIn ColorSpaces c.args.offer.now (offer_demand p)) (λ p takes. takes.colour) (participants (members_at c.args.tree.now.nodes c.args.nodes.now)) (all yes')))
    c.all_take.ensures.take
