-- The nodes so far are marked, the others are as they were.
use Rattle.std.proofs.Common.{◌≡◌, ◌==◌, ◌++◌, ℕ, List, false, get_or, drop, take}
use Rattle.std.specs.List.{list_any}
use Rattle.sysmem_tree.specs.Tree.{left_out_but}
use Rattle.sysmem_tree.proofs.standing.leave_out.Given as goal

abbrev pub invariant-loop-number : goal.invariant-loop-number
invariant-loop-number l = (numbers : List ℕ) → ((k : ℕ) → get_or l.members k false ≡ list_any (λ m. m == k) numbers)
    → l.nodes ≡ left_out_but numbers l.root 0 (take l.number l.initial.nodes) ++ drop l.number l.initial.nodes
