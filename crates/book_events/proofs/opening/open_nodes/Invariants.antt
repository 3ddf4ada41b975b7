-- The marks before the number are set.
use Rattle.book_events.specs.Open.{is_open}
use Rattle.book_events.proofs.Marks.{AreSet}
use Rattle.book_events.proofs.opening.open_nodes.Given as goal

abbrev pub invariant-loop-number : goal.invariant-loop-number
invariant-loop-number l = AreSet (is_open l.tree.nodes) l.marks l.number
