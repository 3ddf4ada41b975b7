-- Few are not many.
use Rattle.std.proofs.Common.{refl}
use Rattle.verdict_claims.specs.Matter.{forest}
use Rattle.sysmem_proof.proofs.Claiming.{few_or_many, few_not_many}
use Rattle.sysmem_proof.proofs.claims.many_fault.Goals as goal

pub returns-then-are_few : goal.returns-then-are_few
returns-then-are_few c = (few_not_many (forest c.args.checker.now) (c.are_few.ensures.0 c.if-are_few.true), refl)

pub returns : goal.returns
returns c = few_or_many (forest c.args.checker.now) c.are_few.result c.are_few.ensures c.if-are_few.false
