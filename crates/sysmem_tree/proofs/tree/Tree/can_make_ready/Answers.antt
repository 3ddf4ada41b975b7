-- See domains/MadeReady.antt.
use Rattle.std.proofs.Common.{sym, ◌∙◌, ap, subst}
use Rattle.sysmem_tree.specs.Domain.{TreeFacts, HasDomain}
use Rattle.sysmem_tree.specs.Nodes.{IsTree}
use Rattle.sysmem_tree.proofs.domains.MadeReady.{unready_there}
use Rattle.sysmem_tree.proofs.tree.Tree.can_make_ready.Goals as goal

pub returns-clause-there : goal.returns-clause-there
returns-clause-there c =
    subst (λ nodes. HasDomain nodes c.in_ok-root.root) (c.deref.ensures.value ∙ ap (λ (t : TreeFacts). t.nodes) c.self.view_is)
    (unready_there (record { nodes = c.deref.result.now; domains = c.deref-2.result.now }) _ c.in_ok-root.root (subst IsTree (sym c.deref.ensures.value) c.self.invariant.0.tree) (sym c.in_ok-root.ensures))
