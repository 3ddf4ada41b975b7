-- A child of the next group is a choice more.
use Rattle.std.proofs.Common.{◌≡◌, [], sym, subst, arith}
use Rattle.std.specs.Prelude.{IfSome}
use Rattle.sysmem_tree.specs.Forest.{first_group}
use Rattle.sysmem_tree.specs.Selection.{after, IsPrefix}
use Rattle.sysmem_tree.specs.Shape.{by_number, forest_of}
use Rattle.sysmem_tree.proofs.CallerLemmas.{prefix_push}
use Rattle.workbench.proofs.decisions.adding.choose.Goals as goal

pub returns : goal.returns
returns c =
    let d = forest_of by_number c.args.tree.now.nodes c.args.domain [] in
    subst (IsPrefix d) (sym c.push.ensures)
    (prefix_push d c.args.prefix.now c.args.choice _ c.in-Some.children c.requires.prefix
    (subst (λ o. IfSome (after d c.args.prefix.now) (λ e. o ≡ first_group e)) c.in-Some.is c.next_group.ensures.group)
    (omega (arith, c.if-from-children.false, c.from.ensures)))
