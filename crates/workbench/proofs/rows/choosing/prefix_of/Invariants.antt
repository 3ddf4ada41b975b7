-- The choices so far are a prefix.
use Rattle.std.proofs.Common.{[]}
use Rattle.sysmem_tree.specs.Selection.{IsPrefix}
use Rattle.sysmem_tree.specs.Shape.{by_number, forest_of}
use Rattle.workbench.proofs.rows.choosing.prefix_of.Given as goal

abbrev pub invariant-loop-choice : goal.invariant-loop-choice
invariant-loop-choice l = IsPrefix (forest_of by_number l.fn.tree.nodes l.fn.domain []) l.prefix
