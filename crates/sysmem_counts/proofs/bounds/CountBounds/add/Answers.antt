use Rattle.std.proofs.Common.{arith}
use Rattle.sysmem_counts.proofs.Counts.{stands_push}
use Rattle.sysmem_counts.proofs.bounds.CountBounds.add.Goals as goal

-- what is kept afterwards is what is kept with this participant
pub returns-clause-added : goal.returns-clause-added
returns-clause-added c ps stands =
    rw (c.from.ensures, c.from-2.ensures, c.max-self-inside.ensures, c.max-self-inside-2.ensures, c.min-self-inside.ensures)
    (stands_push _ ps c.args.asked.now (omega arith) (rw c.self.view_is stands))
