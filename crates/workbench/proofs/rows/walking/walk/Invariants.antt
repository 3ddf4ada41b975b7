-- The group that is open after the choices so far.
use Rattle.std.proofs.Common.{ℕ, List, []}
use Rattle.sysmem_tree.specs.OpenGroups.{IsFirstOpen}
use Rattle.sysmem_tree.specs.Shape.{by_number, forest_of}
use Rattle.workbench.proofs.rows.walking.walk.Given as goal

abbrev pub invariant-loop-choice : goal.invariant-loop-choice
invariant-loop-choice l = (cs : List ℕ) × IsFirstOpen l.layout (forest_of by_number l.fn.tree.nodes l.fn.domain []) cs l.open
