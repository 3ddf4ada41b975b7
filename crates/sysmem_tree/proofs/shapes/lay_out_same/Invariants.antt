use Rattle.std.proofs.Common.{◌≡◌, ◌↔◌}
use Rattle.sysmem_tree.proofs.layouts.LaidSame.{shown_from}
use Rattle.sysmem_tree.proofs.shapes.lay_out_same.Given as goal

-- all show the same exactly where those that are left do
abbrev pub invariant-loop-at : goal.invariant-loop-at
invariant-loop-at l =
    (shown_from l.nodes l.layout.places l.at ≡ shown_from l.others l.other.places l.at)
    ↔ (shown_from l.nodes l.layout.places l.layout.start ≡ shown_from l.others l.other.places l.other.start)
