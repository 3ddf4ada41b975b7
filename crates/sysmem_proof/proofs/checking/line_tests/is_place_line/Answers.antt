-- What is tested of those named.
use Rattle.sysmem_memory.specs.PlaceTable.{IsPlaceLine}
use Rattle.offer_fits.specs.Demands.{place_demands}
use Rattle.verdict_claims.proofs.OnRoll.{place_told, true_of}
use Rattle.verdict_claims.specs.Roll.{listed}
use Rattle.sysmem_proof.proofs.checking.line_tests.is_place_line.Goals as goal

pub returns : goal.returns
returns c = true_of (listed c.args.roll.now) c.nodes.result.now c.args.line.now.nodes c.field.result c.args.line.now.field (λ f ps. IsPlaceLine f c.args.heap.now c.args.domain (place_demands ps)) c.refuse_place.result
    c.nodes.ensures c.field.ensures c.requires (place_told c.args.heap.now c.args.domain c.field.result _ c.refuse_place.result c.refuse_place.ensures)
