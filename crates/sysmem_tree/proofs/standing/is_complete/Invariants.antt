-- None of the nodes from the number on is awaited.
use Rattle.std.specs.Prelude.{◌≡◌, drop, true}
use Rattle.sysmem_tree.specs.Domain.{is_complete}
use Rattle.sysmem_tree.proofs.standing.is_complete.Given as goal

abbrev pub invariant-loop-number : goal.invariant-loop-number
invariant-loop-number l = is_complete (drop l.number l.fn.nodes) l.fn.root ≡ true
