-- By numbers and by the shape.
use Rattle.std.proofs.Common.{[], sym, subst}
use Rattle.sysmem_tree.specs.Shape.{by_number, forest_of}
use Rattle.sysmem_proof.proofs.Selections.{Selects, selected_same}
use Rattle.sysmem_proof.proofs.selecting.is_selected.Goals as goal

pub returns : goal.returns
returns c =
    let nodes = c.args.tree.now.nodes in
    let d = forest_of by_number nodes c.args.domain [] in
    let same = selected_same nodes c.args.domain c.args.selection.now (c.choices_leave_one_forest.ensures nodes c.args.domain c.args.selection.now) in
    let test = c.selects.ensures d c.layout.ensures.lays in (
      λ is. same.0 (subst (Selects d) c.choices.ensures (test.0 is)),
      λ s. test.1 (subst (Selects d) (sym c.choices.ensures) (same.1 s)),
    )
