-- By the type's invariant.
use Rattle.std.proofs.Common.{ap, subst}
use Rattle.sysmem_tree.specs.Domain.{TreeFacts}
use Rattle.sysmem_alloc.specs.Frozen.{FrozenFacts}
use Rattle.sysmem_alloc.specs.Sound.{MayWait}
use Rattle.sysmem_alloc.proofs.frozen.Frozen.domain.Goals as goal

pub returns-clause-waits : goal.returns-clause-waits
returns-clause-waits c = subst (λ (t : TreeFacts). MayWait t c.self.inside.domain) (ap (λ (f : FrozenFacts). f.tree) c.self.view_is) c.self.invariant.waits
