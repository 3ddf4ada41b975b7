use Rattle.std.proofs.Common.{◌≡◌, ◌<◌, ◌↔◌, length}
use Rattle.sysmem_tree.specs.Path.{path_of}
use Rattle.sysmem_tree.proofs.shapes.have_same_path.Given as goal

-- the paths are one exactly where those to the nodes that were reached are
abbrev pub invariant-loop-birth : goal.invariant-loop-birth
invariant-loop-birth l = record {
  own : l.own < length l.nodes;
  other : l.its < length l.others;
  same : (path_of l.nodes l.own ≡ path_of l.others l.its) ↔ (path_of l.nodes l.node ≡ path_of l.others l.other);
}

-- a parent is older than its child
abbrev pub decreases-loop-birth : goal.decreases-loop-birth
decreases-loop-birth l = l.own
