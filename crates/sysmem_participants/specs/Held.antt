-- What a handle holds, and what a call makes of it.
use Rattle.std.specs.Prelude.{◌≡◌, ◌≢◌, ◌++◌, ℕ, Bool, true, List, [], ◌∷◌, Option, None, Some}
use Rattle.std.specs.Prelude.{IfSome}
use Rattle.sysmem_alloc.specs.Book.{BookFacts, IsBook}
use Rattle.negotiation_inputs.specs.Platform.{PlatformFacts}
use Rattle.sysmem_tree.specs.declared.refusal.Refusal.{Refusal}
use Rattle.sysmem_tree.specs.declared.refusal.Refusal.TheVariants.{NoMemory, Strange, WrongState}
use Rattle.sysmem_tree.specs.declared.state.NodeKind.{NodeKind}
use Rattle.sysmem_tree.specs.declared.state.NodeKind.TheVariants.{Token}
use Rattle.sysmem_tree.specs.declared.state.NodeState.{NodeState}
use Rattle.sysmem_tree.specs.ActionKind.{Deed, kind_of}
use Rattle.sysmem_tree.specs.Path.{Shown}
use Rattle.sysmem_tree.specs.Step.{shown_after_all}
use Rattle.sysmem_room.specs.Agreeing.{IsOwn}
use Rattle.sysmem_room.specs.Entering.{HasEntered}
use Rattle.sysmem_room.specs.Log.{LogFacts, begun_as}
use Rattle.sysmem_room.specs.Refusals.{IsDisputed, MayAnswer, due}
use Rattle.sysmem_room.specs.declared.outcome.Outcome.{Outcome}

-- its node's path, how the node began, the accepted actions on it, the number of its cell and what
-- it knows of what is there, and the platform
pub record Held : Type 0 where
  pub path : List ℕ
  pub begun : Shown
  pub deeds : List Deed
  pub cell : ℕ
  pub known : Option Outcome
  pub platform : PlatformFacts

-- what is left of a handle that was spent
pub record Left : Type 0 where
  pub path : List ℕ
  pub deeds : List Deed
  pub cell : ℕ
  pub known : Option Outcome
  pub platform : PlatformFacts

-- what the actions make of the node
abbrev pub state_of : Held → NodeState
state_of h = (shown_after_all h.begun h.deeds).state

-- with one more action
abbrev pub acted : Held → Deed → Held
acted h deed = record h { deeds = h.deeds ++ deed ∷ [] }

-- what the handle of a child holds that was just made, with this cell
abbrev pub child_of : Held → NodeKind → Bool → ℕ → Held
child_of h kind is_root cell = record h {
  path = h.path ++ (state_of h).children ∷ [];
  begun = begun_as kind is_root;
  deeds = [];
  cell = cell;
  known = None;
}

-- what the handle of a root holds at first, with this cell
abbrev pub root_of : PlatformFacts → ℕ → Held
root_of platform cell = record {
  path = [];
  begun = begun_as Token true;
  deeds = [];
  cell = cell;
  known = None;
  platform = platform;
}

-- what is left of it
abbrev pub left_of : Held → Left
left_of h = record {
  path = h.path;
  deeds = h.deeds;
  cell = h.cell;
  known = h.known;
  platform = h.platform;
}

-- nothing that the handle knows refuses the action
abbrev pub MayEnter : Held → Deed → Type 0
MayEnter h deed = due h.known h.path (state_of h) (kind_of deed) ≡ None

-- how a handle refuses an action: for want of memory, because it and the collection disagree, for
-- what is due, or for what it can't foresee: where nothing is due `TooManyNodes`, and where it
-- knows no verdict `DomainFailed` and `NotSelected`, by one that it doesn't know, before what is
-- due too
abbrev pub Answers : Held → Deed → Refusal → Type 0
Answers h deed r = r ≢ Strange → r ≢ NoMemory
    → MayAnswer (due h.known h.path (state_of h) (kind_of deed)) h.known (kind_of deed) r

-- how it refuses one that ends its node: because the two disagree, or for the node's state
abbrev pub AnswersAtEnd : Held → Deed → Refusal → Type 0
AnswersAtEnd h deed r = r ≢ Strange
    → (r ≡ WrongState) × (due h.known h.path (state_of h) (kind_of deed) ≡ Some WrongState)

-- the log of a handle; for how many more actions it has room is left out
abbrev pub log_of : Held → LogFacts
log_of h = record { path = h.path; begun = h.begun; deeds = h.deeds; places = 0 }

-- a book has the node that is a handle's own, by what the handle saw in its cell
abbrev pub HasOwn : BookFacts → Held → Option Outcome → Type 0
HasOwn b h seen = (node : ℕ) × IsOwn b (log_of h) seen node

-- some legal book has that node, by something that the handle may have seen in its cell: what it
-- knew, if it knew a verdict; that the book is the one under the lock isn't said
pub record IsInBook (h : Held) : Type 0 where
  pub seen : Option Outcome
  pub knew : IfSome h.known (λ o. seen ≡ Some o)
  pub book : BookFacts
  pub legal : IsBook book
  pub own : HasOwn book h seen

-- a refusal comes only where some legal book has that node, unless it is for want of memory or
-- `Strange`
abbrev pub RefusesInBook : Held → Refusal → Type 0
RefusesInBook h r = r ≢ Strange → r ≢ NoMemory → IsInBook h

-- a book has on that node one action more than before, and nothing else
abbrev pub HasActed : BookFacts → BookFacts → Held → Option Outcome → Deed → Type 0
HasActed old new h seen deed = HasEntered old new (log_of h) seen deed

-- a handle that saw this in its cell and a book disagree on an action: the book has no node that is
-- the handle's own, or its decision left that node out, which is a member by what the handle saw
abbrev pub Disputes : BookFacts → Held → Option Outcome → Deed → Type 0
Disputes b h seen deed = (node : ℕ) → IsOwn b (log_of h) seen node
    → IsDisputed b h.path (state_of h) seen (kind_of deed) node

-- the same but for what it knows of the cell
abbrev pub IsSameBut : Held → Held → Type 0
IsSameBut h g = record g { known = None } ≡ record h { known = None }

-- and what was known of that is known still
abbrev pub IsStillKnown : Held → Held → Type 0
IsStillKnown h g = IfSome h.known (λ o. g.known ≡ Some o)
