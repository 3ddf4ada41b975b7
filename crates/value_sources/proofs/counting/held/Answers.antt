-- The sum of its parts, none of which is cut off.
use Rattle.std.proofs.Common.{arith}
use Rattle.value_sources.proofs.Counts.{held_is}
use Rattle.value_sources.proofs.counting.held.Goals as goal

pub returns : goal.returns
returns c = λ few. omega (
  arith,
  c.total.ensures.is few,
  c.total.ensures.few few,
  c.total-2.ensures.is few,
  c.total-2.ensures.few few,
  c.most.ensures.is,
  c.most.ensures.few,
  c.saturating_add.ensures,
  c.saturating_add-2.ensures,
  held_is c.args.participants.now,
)
