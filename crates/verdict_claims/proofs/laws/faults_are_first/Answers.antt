use Rattle.verdict_claims.proofs.Faulting.{faults_are_first}
use Rattle.verdict_claims.proofs.laws.faults_are_first.Goals as goal

pub returns : goal.returns
returns c = faults_are_first
