-- The roll is that of its parts.
use Rattle.std.proofs.Common.{sym, subst}
use Rattle.verdict_claims.specs.Fault.{AreNamed}
use Rattle.verdict_claims.specs.Roll.{listed}
use Rattle.sysmem_proof.proofs.roll.Roll.few_named.Goals as goal

pub returns : goal.returns
returns c = λ paths named. c.few_paths.ensures paths (subst (λ r. AreNamed (listed r) paths) (sym c.self.view_is) named)
