-- How calls that act on a collection end.
use Rattle.std.specs.Prelude.{◌≡◌, ℕ, Bool, Option, Some, None, Ok, is_some}
use Rattle.node_limits.specs.declared.limits.Limits.{Limits}
use Rattle.node_limits.specs.Limits.{applied_within}
use Rattle.live_book.specs.declared.acting.Denial.{Denial}
use Rattle.live_book.specs.declared.object.Object.{Object}
use Rattle.live_book.specs.declared.object.Object.TheVariants.{Collection}
use Rattle.live_book.specs.Acting.{IsDenied}
use Rattle.live_book.specs.Collection.{CollectionFacts, with_book}
use Rattle.live_calls.specs.Behind.{IsNoCollection}
use Rattle.live_calls.specs.Numbers.{denial_status}
use Rattle.sysmem_alloc.specs.Book.{BookFacts, entered}
use Rattle.sysmem_alloc.specs.Entry.{Acted}
use Rattle.sysmem_alloc.specs.State.{next_ready}
use Rattle.sysmem_tree.specs.ActionKind.{Deed}

-- an action on node k within limits is the next step of a book in which no domain waits: made is the
-- node that answers, and ready whether a domain waits then
pub record Steps (limits : Limits) (k : ℕ) (deed : Deed) (old new : BookFacts) (made : ℕ)
    (ready : Bool) : Type 0 where
  pub idle : next_ready old.state ≡ None
  pub entered : new ≡ entered old (Acted k deed)
  pub applied : applied_within limits old.state.tree k deed
      ≡ Ok (record { tree = new.state.tree; node = made })
  pub is_ready : ready ≡ is_some (next_ready new.state)

-- a call that acts on node k of what lies behind a handle: a step; or it is denied, or that is no
-- collection, and then nothing has changed
pub data Acts (k : ℕ) (deed : Deed) (before after : Option Object) (made : ℕ)
    (ready : Bool) : ℕ → Type 0 where
  accepts : (c : CollectionFacts) (b : BookFacts) → before ≡ Some (Collection c)
      → after ≡ Some (Collection (with_book c b)) → Steps c.limits k deed c.book b made ready
      → Acts k deed before after made ready 0
  denies : (c : CollectionFacts) (denial : Denial) → before ≡ Some (Collection c)
      → after ≡ before → IsDenied c k deed denial
      → Acts k deed before after made ready (denial_status denial)
  misused : IsNoCollection before → after ≡ before → Acts k deed before after made ready 2
