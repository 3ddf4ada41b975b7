-- Those so far are named.
use Rattle.std.proofs.Common.{take}
use Rattle.std.specs.Prelude.{All}
use Rattle.verdict_claims.specs.Fault.{AreNamed}
use Rattle.verdict_claims.specs.Roll.{listed}
use Rattle.sysmem_proof.proofs.checking.fixed_faults.all_named.Given as goal

abbrev pub invariant-loop-index : goal.invariant-loop-index
invariant-loop-index l = All (λ line. AreNamed (listed l.roll) line.nodes) (take l.index l.lines)
