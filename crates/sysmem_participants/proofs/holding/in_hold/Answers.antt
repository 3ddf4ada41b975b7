-- The refusal is the room's, by the book that was found.
use Rattle.std.proofs.Common.{rules}
use Rattle.sysmem_participants.proofs.holding.in_hold.Goals as goal

pub returns-clause-own : goal.returns-clause-own
returns-clause-own g c = λ not_strange.
    let (node, own) = c.in-Err.ensures.own not_strange in (node, search (rules, own))
