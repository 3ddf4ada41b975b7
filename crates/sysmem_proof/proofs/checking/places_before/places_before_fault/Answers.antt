-- The places of the platform.
use Rattle.verdict_claims.specs.Roll.{listed}
use Rattle.sysmem_proof.proofs.PlacesFirst.{before_told}
use Rattle.sysmem_proof.proofs.checking.places_before.places_before_fault.Goals as goal

pub returns : goal.returns
returns c = before_told c.args.platform.now (listed c.args.roll.now) c.args.settings.now c.args.lines.now c.heaps.result.now c.place_lines_fault.result c.heaps.ensures.heaps c.place_lines_fault.ensures c.requires
