-- One path.
use Rattle.verdict_claims.proofs.OnRoll.{one_named}
use Rattle.verdict_claims.specs.Roll.{listed}
use Rattle.sysmem_proof.proofs.checking.names.is_named.Goals as goal

pub returns : goal.returns
returns c = one_named (listed c.args.roll.now) c.args.path.now c.has.result c.has.ensures
