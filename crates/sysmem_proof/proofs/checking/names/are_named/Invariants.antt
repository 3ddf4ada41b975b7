-- Those so far are named, and their numbers are seen.
use Rattle.std.proofs.Common.{◌≡◌, ℕ, Some, false, get_or, length, take}
use Rattle.std.specs.Prelude.{◌↔◌, Any, IsTrue}
use Rattle.sysmem_tree.specs.Path.{node_at}
use Rattle.verdict_claims.specs.Fault.{AreNamed}
use Rattle.verdict_claims.specs.Roll.{listed}
use Rattle.sysmem_proof.proofs.checking.names.are_named.Given as goal

abbrev pub invariant-loop-path : goal.invariant-loop-path
invariant-loop-path l = record {
  long : length l.seen ≡ 128;
  named : AreNamed (listed l.roll) (take (length l.yielded) l.paths);
  seen : (k : ℕ) → IsTrue (get_or l.seen k false) ↔ Any (λ p. node_at l.roll.nodes p ≡ Some k) (take (length l.yielded) l.paths);
}
