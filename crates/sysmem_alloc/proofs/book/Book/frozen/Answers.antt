-- The copy is the tree for which the domain waits.
use Rattle.std.proofs.Common.{◌∙◌, ap, subst, sym}
use Rattle.sysmem_tree.specs.Domain.{TreeFacts}
use Rattle.sysmem_alloc.specs.Book.{BookFacts}
use Rattle.sysmem_alloc.specs.Sound.{MayWait}
use Rattle.sysmem_alloc.proofs.book.Book.frozen.Goals as goal

pub new-requires-clause-waits : goal.new-requires-clause-waits
new-requires-clause-waits c = subst (λ (t : TreeFacts). MayWait t c.in-Some.domain) (sym (c.in_ok-tree.ensures ∙ ap (λ (b : BookFacts). b.state.tree) c.self.view_is)) c.in-Some.ensures.waits
