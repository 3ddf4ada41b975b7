use Rattle.sysmem_counts.proofs.Counts.{stands_append}
use Rattle.sysmem_counts.proofs.bounds.CountBounds.join.Goals as goal

-- what is kept afterwards is what is kept of both
pub returns-clause-joined : goal.returns-clause-joined
returns-clause-joined c ps qs stands others =
    rw (c.max-self-inside.ensures, c.max-self-inside-2.ensures, c.min-self-inside.ensures)
    (stands_append _ _ ps qs (rw c.self.view_is stands) (rw c.more.view_is others))
