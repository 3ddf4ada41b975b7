-- None of those so far is refused the place.
use Rattle.std.proofs.Common.{◌≡◌, length, take, true}
use Rattle.std.specs.Prelude.{Any}
use Rattle.sysmem_memory.specs.PlaceTable.{refuses_by}
use Rattle.verdict_claims.specs.Roll.{asked_by, listed}
use Rattle.sysmem_proof.proofs.asked.refuse_place.Given as goal

abbrev pub invariant-loop-path : goal.invariant-loop-path
invariant-loop-path l = ¬ (Any (λ p. refuses_by l.field p.memory p.usage l.heap l.domain ≡ true) (asked_by (listed l.roll) (take (length l.yielded) l.paths)))
