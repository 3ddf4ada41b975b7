-- The domain is that of its parts.
use Rattle.std.proofs.Common.{subst}
use Rattle.std.specs.Prelude.{◌↔◌, IsTrue}
use Rattle.verdict_claims.specs.Matter.{Matter, forest}
use Rattle.verdict_claims.specs.Fault.{AreFew}
use Rattle.sysmem_proof.proofs.checking.checker.Checker.are_few.Goals as goal

pub returns : goal.returns
returns c = subst (λ (x : Matter). IsTrue c.are_few.result ↔ AreFew (forest x)) c.self.view_is c.are_few.ensures
