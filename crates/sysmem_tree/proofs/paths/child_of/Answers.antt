-- Children are younger than their parents.
use Rattle.std.proofs.Common.{◌+◌, length, sym, ◌∙◌, ap, arith}
use Rattle.std.proofs.lemmas.Slice.{between_to_end}
use Rattle.sysmem_tree.specs.Path.{child_of}
use Rattle.sysmem_tree.proofs.nodes.Leading.{found_from, none_behind}
use Rattle.sysmem_tree.proofs.paths.child_of.Goals as goal

pub returns-in_err-behind-clause-child : goal.returns-in_err-behind-clause-child
returns-in_err-behind-clause-child c =
    let rest = between_to_end c.args.nodes.now (c.args.parent + 1) (length c.args.nodes.now) (omega arith) in
    c.from_residual.ensures
    ∙ none_behind c.args.nodes.now c.args.parent c.args.ordinal c.requires.tree (sym (ap (λ ns. child_of ns c.args.parent c.args.ordinal) rest) ∙ (sym c.child_among.ensures.child ∙ c.in_err-behind.was))

pub returns-clause-child : goal.returns-clause-child
returns-clause-child c =
    let rest = between_to_end c.args.nodes.now (c.args.parent + 1) (length c.args.nodes.now) (omega arith) in
    sym (found_from c.args.nodes.now (c.args.parent + 1) c.args.parent c.args.ordinal c.in_ok-behind.behind c.requires.tree
    (sym (ap (λ ns. child_of ns c.args.parent c.args.ordinal) rest) ∙ (sym c.child_among.ensures.child ∙ c.in_ok-behind.was)))
