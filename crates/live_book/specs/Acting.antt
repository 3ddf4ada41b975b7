-- Calls that act on a collection.
use Rattle.std.specs.Prelude.{◌≡◌, ℕ, true, None, Err, is_some}
use Rattle.node_limits.specs.Limits.{applied_within}
use Rattle.sysmem_alloc.specs.State.{next_ready}
use Rattle.sysmem_tree.specs.ActionKind.{Deed}
use Rattle.live_book.specs.declared.acting.Denial.{Denial}
use Rattle.live_book.specs.declared.acting.Denial.TheVariants.{Busy, Refused}
use Rattle.live_book.specs.Collection.{CollectionFacts}

-- an action on node k is denied: a domain waits for a decision; or none does, and this is the
-- tree's first refusal, or, where it has none, that of the limits
abbrev pub IsDenied : CollectionFacts → ℕ → Deed → Denial → Type 0
IsDenied c k deed Busy = is_some (next_ready c.book.state) ≡ true
IsDenied c k deed (Refused refusal) = (next_ready c.book.state ≡ None)
    × (applied_within c.limits c.book.state.tree k deed ≡ Err refusal)
