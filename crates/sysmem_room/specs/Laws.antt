-- What limits keep, whoever acts.
use Rattle.std.specs.Prelude.{◌≡◌, false, Option}
use Rattle.sysmem_alloc.specs.Book.{BookFacts, IsBook, entered}
use Rattle.sysmem_alloc.specs.Decision.{Claimed}
use Rattle.sysmem_alloc.specs.Entry.{Decided}
use Rattle.sysmem_alloc.specs.State.{first_state}
use Rattle.sysmem_tree.specs.ActionKind.{Deed, kind_of}
use Rattle.node_limits.specs.declared.limits.Limits.{Limits}
use Rattle.node_limits.specs.Laws.{KeepTo}
use Rattle.node_limits.specs.Limits.{is_spent}
use Rattle.sysmem_room.specs.declared.outcome.Outcome.{Outcome}
use Rattle.sysmem_room.specs.Entering.{HasEntered}
use Rattle.sysmem_room.specs.Log.{LogFacts}

-- a history goes on keeping to the limits: with the action of a handle for which they aren't spent,
-- and with a decision
pub record GoesOnKeeping (limits : Limits) (b : BookFacts) : Type 0 where
  pub acted : (new : BookFacts) (log : LogFacts) (known : Option Outcome) (deed : Deed)
      → HasEntered b new log known deed
      → is_spent limits b.state.tree.nodes log.path (kind_of deed) ≡ false
      → KeepTo limits first_state new.history
  pub decided : (c : Claimed) → KeepTo limits first_state (entered b (Decided c)).history

-- each book whose history keeps to the limits goes on so
abbrev pub LimitGoesOn : Type 0
LimitGoesOn = (limits : Limits) (b : BookFacts) → IsBook b → KeepTo limits first_state b.history
    → GoesOnKeeping limits b
