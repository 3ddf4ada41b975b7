-- None of the nodes so far is the one that is looked for.
use Rattle.std.proofs.Common.{◌≤◌}
use Rattle.book_replay.proofs.entering.node_in.Given as goal

abbrev pub invariant-loop-number : goal.invariant-loop-number
invariant-loop-number l = l.number ≤ l.node
