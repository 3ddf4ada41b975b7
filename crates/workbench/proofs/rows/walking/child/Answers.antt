-- A number below that of the children is a choice.
use Rattle.std.proofs.Common.{◌≡◌, ◌<◌, refl, sym, subst, arith}
use Rattle.std.specs.Prelude.{IsSome}
use Rattle.sysmem_tree.proofs.CallerLemmas.{prefix_push}
use Rattle.workbench.proofs.rows.walking.child.Goals as goal

pub child_at-requires : goal.child_at-requires
child_at-requires c =
    let (d, cs, h) = c.requires in
    (d, cs, h, prefix_push d cs c.args.choice _ _ (subst IsSome (sym h.leaves.leads) refl) (c.group_at-children.ensures.group d cs h) (omega (arith, c.if-from-children.false, c.from.ensures)))

pub returns-clause-child : goal.returns-clause-child
returns-clause-child c = λ d cs h.
    c.child_at.ensures.child d cs h
    (prefix_push d cs c.args.choice _ _ (subst IsSome (sym h.leaves.leads) refl) (c.group_at-children.ensures.group d cs h) (omega (arith, c.if-from-children.false, c.from.ensures)))
