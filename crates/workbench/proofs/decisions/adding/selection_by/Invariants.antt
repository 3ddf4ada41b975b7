-- The choices so far are a prefix.
use Rattle.std.proofs.Common.{[]}
use Rattle.sysmem_tree.specs.Selection.{IsPrefix}
use Rattle.sysmem_tree.specs.Shape.{by_number, forest_of}
use Rattle.workbench.proofs.decisions.adding.selection_by.Given as goal

abbrev pub invariant-loop-number : goal.invariant-loop-number
invariant-loop-number l = IsPrefix (forest_of by_number l.fn.tree.nodes l.fn.domain []) l.prefix
