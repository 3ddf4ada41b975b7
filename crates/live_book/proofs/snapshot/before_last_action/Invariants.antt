-- Behind the count there are decisions.
use Rattle.std.proofs.Common.{ℕ, ◌-◌, ◌≤◌, length, slice_get}
use Rattle.std.specs.Prelude.{IfSome}
use Rattle.live_book.specs.Snapshot.{IsKeptDecision}
use Rattle.live_book.proofs.snapshot.before_last_action.Given as goal

abbrev pub invariant-loop-count : goal.invariant-loop-count
invariant-loop-count l = record {
  within : l.count ≤ length l.history;
  later : (k : ℕ) → l.count ≤ k → IfSome (slice_get l.history k) IsKeptDecision;
}

abbrev pub decreases-loop-count : goal.decreases-loop-count
decreases-loop-count l = l.count
