use Rattle.std.proofs.Common.{◌∙◌, ap}
use Rattle.sysmem_tree.specs.Domain.{TreeFacts}
use Rattle.sysmem_tree.specs.Path.{path_of}
use Rattle.sysmem_tree.proofs.tree.Tree.path_of.Goals as goal

pub returns-clause-path : goal.returns-clause-path
returns-clause-path c =
    c.new.ensures ∙ (c.in_ok-ordinals.ensures.path ∙ (ap (λ z. path_of z c.node.inside.0) c.deref.ensures.value
    ∙ (ap (λ (t : TreeFacts). path_of t.nodes c.node.inside.0) c.self.view_is ∙ ap (path_of c.args.self.now.nodes) c.node.view_is)))
