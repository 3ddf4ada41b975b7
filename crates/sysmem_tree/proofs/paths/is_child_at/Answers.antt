-- What was born as the child is the child.
use Rattle.std.proofs.Common.{◌≡◌, ◌∙◌, Some, length, refl, slice_get, sym}
use Rattle.std.proofs.lemmas.Option.{slice_get_read}
use Rattle.sysmem_tree.proofs.nodes.Ways.{found_at}
use Rattle.sysmem_tree.proofs.paths.is_child_at.Goals as goal

pub returns-in-Some-clause-child : goal.returns-in-Some-clause-child
returns-in-Some-clause-child c = λ is.
    let found = c.in-Some.ensures.lookup in
    let here : slice_get c.args.nodes.now c.args.number ≡ Some c.in-Some.node.now = slice_get_read c.args.nodes.now (length c.args.nodes.now) c.args.number c.in-Some.node.now refl found.3.0 found.1 in
    found_at c.args.nodes.now c.args.number c.args.parent c.args.ordinal c.in-Some.node.now c.requires here (sym c.is_child.ensures ∙ is)
