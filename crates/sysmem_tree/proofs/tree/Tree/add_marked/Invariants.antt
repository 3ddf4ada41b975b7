-- What is kept so far, and what is left.
use Rattle.std.proofs.Common.{◌≡◌, ◌++◌}
use Rattle.std.specs.Prelude.{filter}
use Rattle.std.specs.Vec.{vec_capacity}
use Rattle.sysmem_tree.specs.Members.{is_marked}
use Rattle.sysmem_tree.proofs.layouts.Picking.{IsOnTheWay, nodes_from}
use Rattle.sysmem_tree.proofs.tree.Tree.add_marked.Given as goal

abbrev pub invariant-loop-at : goal.invariant-loop-at
invariant-loop-at l = record {
  way : IsOnTheWay (is_marked l.self.nodes l.marks) l.layout.places l.at l.nodes.items (l.initial.nodes.items ++ filter (is_marked l.self.nodes l.marks) (nodes_from l.layout.places l.layout.start));
  reserved : vec_capacity l.nodes ≡ vec_capacity l.initial.nodes;
}
