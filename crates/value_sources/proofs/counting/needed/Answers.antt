-- The greatest of its parts.
use Rattle.std.proofs.Common.{arith}
use Rattle.value_sources.proofs.Counts.{needed_is}
use Rattle.value_sources.proofs.counting.needed.Goals as goal

pub returns : goal.returns
returns c = λ few. omega (
  arith,
  c.held.ensures few,
  c.most.ensures.is,
  c.max.ensures,
  c.max-2.ensures,
  needed_is c.args.participants.now,
)
