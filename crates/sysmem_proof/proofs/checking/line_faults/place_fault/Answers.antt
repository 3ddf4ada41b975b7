-- Named, and not refused the place.
use Rattle.verdict_claims.specs.Conflict.{RefusesPlace}
use Rattle.verdict_claims.specs.Roll.{listed}
use Rattle.verdict_claims.proofs.OnRoll.{fault_untrue}
use Rattle.sysmem_proof.proofs.checking.line_faults.place_fault.Goals as goal

pub returns-then-not-is_place_line : goal.returns-then-not-is_place_line
returns-then-not-is_place_line c = fault_untrue (listed c.args.roll.now) (RefusesPlace (listed c.args.roll.now) (record { place = c.args.place; heap = c.args.heap.now }) c.args.line.now)
    c.nodes.result.now c.args.line.now c.are_named.result c.is_place_line.result c.nodes.ensures c.if-not-are_named.false c.are_named.ensures c.if-not-is_place_line.true c.is_place_line.ensures
