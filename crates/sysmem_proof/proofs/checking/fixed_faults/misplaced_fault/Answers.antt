-- All are named, and no lines are a conflict.
use Rattle.std.proofs.Common.{inr, refl}
use Rattle.sysmem_proof.proofs.checking.fixed_faults.misplaced_fault.Goals as goal

pub returns-then-all_named : goal.returns-then-all_named
returns-then-all_named c = inr (c.all_named.ensures.0 c.if-all_named.true, ((λ none. none), refl))
