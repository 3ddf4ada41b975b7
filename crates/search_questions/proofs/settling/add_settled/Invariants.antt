-- What the nodes that were taken of the walk ask.
use Rattle.std.proofs.Common.{ℕ, List, [], ◌≤◌, length}
use Rattle.search_questions.specs.Kept.{IsPartFor}
use Rattle.verdict_claims.specs.Asked.{asked_in}
use Rattle.search_questions.proofs.Walking.{IsTaken}
use Rattle.sysmem_tree.specs.OpenGroups.{HasLeft}
use Rattle.search_questions.proofs.settling.add_settled.Given as goal

abbrev pub invariant-loop-step : goal.invariant-loop-step
invariant-loop-step l = (taken : List ℕ) × (length taken ≤ l._step) × IsPartFor l.subject l.part (asked_in l.subject.nodes taken)
    × ((ns : List ℕ) → HasLeft l.layout l.fn.walk ns → IsTaken l.layout [] taken l.left l._step ns)
