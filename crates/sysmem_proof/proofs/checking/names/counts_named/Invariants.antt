-- Those so far are named, their numbers are seen, and what they ask is counted.
use Rattle.std.proofs.Common.{◌≡◌, ◌≤◌, ◌*◌, ◌^◌, ℕ, Some, false, get_or, length, take}
use Rattle.std.specs.Prelude.{◌↔◌, Any, IsTrue}
use Rattle.sysmem_counts.specs.Bounds.{IsTallyOf}
use Rattle.sysmem_counts.specs.Tally.{sum_of}
use Rattle.offer_fits.specs.Demands.{counts_asked}
use Rattle.sysmem_tree.specs.Path.{node_at}
use Rattle.verdict_claims.specs.Fault.{AreNamed}
use Rattle.verdict_claims.specs.Roll.{asked_by, listed}
use Rattle.sysmem_proof.proofs.checking.names.counts_named.Given as goal

abbrev pub invariant-loop-path : goal.invariant-loop-path
invariant-loop-path l = record {
  long : length l.counted ≡ 128;
  named : AreNamed (listed l.roll) (take (length l.yielded) l.paths);
  seen : (k : ℕ) → IsTrue (get_or l.counted k false) ↔ Any (λ p. node_at l.roll.nodes p ≡ Some k) (take (length l.yielded) l.paths);
  stands : IsTallyOf l.counts (counts_asked (asked_by (listed l.roll) (take (length l.yielded) l.paths)));
  few : sum_of l.counts ≤ (length l.yielded) * 2 ^ 33;
}
