-- The calls so far are the script's, some of them left out.
use Rattle.other_outcomes.specs.Shorter.{IsShorter}
use Rattle.other_outcomes.proofs.ended_earlier.without.Given as goal

abbrev pub invariant-loop-end : goal.invariant-loop-end
invariant-loop-end l = IsShorter l.calls l.made.items
