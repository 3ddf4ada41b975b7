-- No more participants than turns were added.
use Rattle.std.proofs.Common.{◌≤◌}
use Rattle.workbench.proofs.decisions.adding.together.Given as goal

abbrev pub invariant-loop-number : goal.invariant-loop-number
invariant-loop-number l = l.aggregate.added ≤ l.number
