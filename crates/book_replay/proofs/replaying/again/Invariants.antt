-- As far as the history has come, the copy has it.
use Rattle.book_replay.proofs.Replays.{IsSoFar}
use Rattle.book_replay.proofs.replaying.again.Given as goal

abbrev pub invariant-loop-entry : goal.invariant-loop-entry
invariant-loop-entry l = IsSoFar l.fn.book l.copy l.entry-index
