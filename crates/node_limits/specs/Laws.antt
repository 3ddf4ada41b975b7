-- What limits keep, whoever acts.
use Rattle.std.specs.Prelude.{◌≡◌, ◌≤◌, ℕ, false, List, [], ◌∷◌, IfSome}
use Rattle.sysmem_alloc.specs.Book.{BookFacts, IsBook}
use Rattle.sysmem_alloc.specs.Entry.{BookEntry, Acted, Decided}
use Rattle.sysmem_alloc.specs.History.{after_entry}
use Rattle.sysmem_alloc.specs.State.{State, first_state}
use Rattle.sysmem_tree.specs.ActionKind.{kind_of}
use Rattle.sysmem_tree.specs.Node.{NodeFacts}
use Rattle.sysmem_tree.specs.Path.{path_of}
use Rattle.node_limits.specs.declared.limits.Limits.{Limits}
use Rattle.node_limits.specs.Limits.{is_spent, offspring}

-- no child of the root has more nodes below it than the limits allow
abbrev pub IsBounded : Limits → List NodeFacts → Type 0
IsBounded limits nodes =
    (top : ℕ) → IfSome limits.offspring (λ most. offspring nodes top ≤ most)

-- an entry keeps to the limits: it is a decision, or an action for which they weren't spent
abbrev pub KeepsTo : Limits → List NodeFacts → BookEntry → Type 0
KeepsTo limits nodes (Acted i deed) =
    is_spent limits nodes (path_of nodes i) (kind_of deed) ≡ false
KeepsTo limits nodes (Decided c) = Unit {0}

-- each entry kept to the limits as it was entered
abbrev pub KeepTo : Limits → State → List BookEntry → Type 0
KeepTo limits s [] = Unit {0}
KeepTo limits s (e ∷ es) = KeepsTo limits s.tree.nodes e × KeepTo limits (after_entry s e) es

-- where each action kept to the limits as it was entered, no child of the root ever has more nodes
-- below it than they allow
abbrev pub LimitIsKept : Type 0
LimitIsKept = (limits : Limits) (b : BookFacts) → IsBook b
    → KeepTo limits first_state b.history → IsBounded limits b.state.tree.nodes
