use Rattle.std.proofs.Common.{subst}
use Rattle.sysmem_alloc.specs.Frozen.{FrozenFacts}
use Rattle.sysmem_alloc.specs.Sound.{MayWait}
use Rattle.sysmem_participants.proofs.view.View.domain.Goals as goal

pub returns-clause-waits : goal.returns-clause-waits
returns-clause-waits c = subst (λ (f : FrozenFacts). MayWait f.tree c.domain.result) c.frozen.ensures c.domain.ensures.waits
