-- What is tested of those named.
use Rattle.offer_fits.specs.Demands.{offer_demands}
use Rattle.offer_fits.specs.OfferLines.{IsOfferLine}
use Rattle.verdict_claims.specs.Roll.{listed}
use Rattle.verdict_claims.proofs.OnRoll.{true_of}
use Rattle.sysmem_proof.proofs.checking.line_tests.is_offer_line.Goals as goal

pub returns : goal.returns
returns c = true_of (listed c.args.roll.now) c.nodes.result.now c.args.line.now.nodes c.field.result c.args.line.now.field (λ f ps. IsOfferLine f c.args.offer.now (offer_demands ps)) c.is_line.result
    c.nodes.ensures c.field.ensures c.requires (c.is_line.ensures c.args.offer.now _ c.read_of.ensures)
