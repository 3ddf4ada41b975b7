-- What became of a handle's action in a book.
use Rattle.std.specs.Prelude.{◌≡◌, ◌⊎◌, ℕ, true, Err, None, Option}
use Rattle.std.specs.Result.{result_err}
use Rattle.sysmem_alloc.specs.Book.{BookFacts, entered}
use Rattle.sysmem_alloc.specs.Entry.{Acted}
use Rattle.sysmem_tree.specs.declared.refusal.Refusal.{Refusal}
use Rattle.sysmem_tree.specs.declared.refusal.Refusal.TheVariants.{TooManyNodes}
use Rattle.sysmem_tree.specs.ActionKind.{Deed, kind_of}
use Rattle.sysmem_tree.specs.Tree.{applied}
use Rattle.node_limits.specs.declared.limits.Limits.{Limits}
use Rattle.node_limits.specs.Limits.{is_spent}
use Rattle.sysmem_room.specs.declared.outcome.Outcome.{Outcome}
use Rattle.sysmem_room.specs.Agreeing.{IsOwn}
use Rattle.sysmem_room.specs.Log.{LogFacts}

-- a book has on a handle's own node one action more than before, and nothing else
abbrev pub HasEntered : BookFacts → BookFacts → LogFacts → Option Outcome → Deed → Type 0
HasEntered old new log known deed =
    (i : ℕ) × IsOwn old log known i × (new ≡ entered old (Acted i deed))

-- a book refuses an action on a handle's own node for this
abbrev pub IsRefusedByBook : BookFacts → LogFacts → Option Outcome → Deed → Refusal → Type 0
IsRefusedByBook b log known deed refusal =
    (i : ℕ) × IsOwn b log known i × (applied b.state.tree i deed ≡ Err refusal)

-- a book refuses an action on a handle's own node for nothing, but the limits are spent
pub record IsBeyond (limits : Limits) (b : BookFacts) (log : LogFacts) (known : Option Outcome)
    (deed : Deed) (refusal : Refusal) : Type 0 where
  pub node : ℕ
  pub own : IsOwn b log known node
  pub allowed : result_err (applied b.state.tree node deed) ≡ None
  pub spent : is_spent limits b.state.tree.nodes log.path (kind_of deed) ≡ true
  pub named : refusal ≡ TooManyNodes

-- an action on a handle's own node is refused for what the book refuses it for; or, where that
-- refuses it for nothing, for the limits
abbrev pub IsRefused : Limits → BookFacts → LogFacts → Option Outcome → Deed → Refusal → Type 0
IsRefused limits b log known deed refusal =
    IsRefusedByBook b log known deed refusal ⊎ IsBeyond limits b log known deed refusal
