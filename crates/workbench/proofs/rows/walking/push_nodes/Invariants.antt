-- The walk has some nodes left.
use Rattle.std.proofs.Common.{ℕ, List}
use Rattle.sysmem_tree.specs.OpenGroups.{HasLeft}
use Rattle.workbench.proofs.rows.walking.push_nodes.Given as goal

abbrev pub invariant-loop : goal.invariant-loop
invariant-loop l = (ns : List ℕ) × HasLeft l.layout l.walk ns
