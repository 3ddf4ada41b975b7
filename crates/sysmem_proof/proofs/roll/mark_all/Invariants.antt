-- The nodes so far are marked.
use Rattle.std.proofs.Common.{◌≡◌, ℕ, false, get_or, length, take}
use Rattle.std.specs.Prelude.{◌==◌, ◌||◌}
use Rattle.std.specs.List.{list_any}
use Rattle.sysmem_proof.proofs.roll.mark_all.Given as goal

abbrev pub invariant-loop-node : goal.invariant-loop-node
invariant-loop-node l = record {
  long : length l.marks ≡ 128;
  marked : (k : ℕ) → get_or l.marks k false ≡ (list_any (λ i. i == k) (take l.node-index l.nodes) || get_or l.initial.marks k false);
}
