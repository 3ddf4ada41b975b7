-- The domain is that of its parts.
use Rattle.std.proofs.Common.{subst}
use Rattle.std.specs.Prelude.{◌↔◌, IsTrue}
use Rattle.verdict_claims.specs.Matter.{Matter, forest}
use Rattle.verdict_claims.specs.Fault.{IsSelected}
use Rattle.sysmem_proof.proofs.checking.checker.Checker.is_selected.Goals as goal

pub returns : goal.returns
returns c = subst (λ (x : Matter). IsTrue c.is_selected.result ↔ IsSelected (forest x) c.args.selection.now) c.self.view_is c.is_selected.ensures
