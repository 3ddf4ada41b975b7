-- The calls so far are the script's, and others that end something after them.
use Rattle.other_outcomes.specs.Ended.{IsEnded}
use Rattle.other_outcomes.proofs.pending.without.Given as goal

abbrev pub invariant-loop-one : goal.invariant-loop-one
invariant-loop-one l = IsEnded l.scenario.calls.now l.calls.items
