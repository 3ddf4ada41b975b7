-- Items are left for no forest.
use Rattle.std.proofs.Common.{[]}
use Rattle.verdict_claims.specs.Matter.{terms}
use Rattle.sysmem_proof.proofs.Left.{some_left}
use Rattle.sysmem_proof.proofs.checking.refutation_faults.refutation_fault.Goals as goal

pub returns-then-end-items-clause-told : goal.returns-then-end-items-clause-told
returns-then-end-items-clause-told c = λ d leads. some_left c.args.checker.now.platform (terms c.args.checker.now) c.args.items.now c.in_ok-end.end d c.if-end-items.true (c.in_ok-end.ensures.told d [] leads)
