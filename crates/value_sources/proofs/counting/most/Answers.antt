-- What somebody has, and nobody passes.
use Rattle.std.proofs.Common.{arith}
use Rattle.value_sources.specs.Sources.{part_of}
use Rattle.value_sources.proofs.Counts.{greatest_is}
use Rattle.value_sources.proofs.counting.most.Goals as goal

pub returns-in-Some-clause-is : goal.returns-in-Some-clause-is
returns-in-Some-clause-is c =
    omega (arith, c.from.ensures, greatest_is (part_of c.args.part) _ c.args.participants.now _ c.in-Some.ensures.from c.in-Some.ensures.most)
