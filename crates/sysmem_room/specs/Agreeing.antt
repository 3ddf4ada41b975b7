-- What a history has of one node, and whether a book has what a handle knows.
use Rattle.std.specs.Prelude.{◌≡◌, ◌==◌, ℕ, List, [], ◌∷◌, map, Option, Some, IfSome, option_and_then}
use Rattle.std.specs.Prelude.{slice_get, if◌then◌else◌}
use Rattle.sysmem_alloc.specs.Book.{BookFacts}
use Rattle.sysmem_alloc.specs.Entry.{BookEntry, Acted, Decided, tree_entry}
use Rattle.sysmem_alloc.specs.State.{verdict_of}
use Rattle.verdict_claims.specs.declared.verdict.Verdict.{Verdict}
use Rattle.verdict_claims.specs.declared.verdict.Verdict.TheVariants as verdicts
use Rattle.sysmem_tree.specs.ActionKind.{Deed}
use Rattle.sysmem_tree.specs.History.{log}
use Rattle.sysmem_tree.specs.Node.{NodeFacts}
use Rattle.sysmem_tree.specs.Path.{node_at}
use Rattle.sysmem_room.specs.declared.outcome.Outcome.{Outcome}
use Rattle.sysmem_room.specs.declared.outcome.Outcome.TheVariants as outcomes
use Rattle.sysmem_room.specs.Log.{LogFacts, shown_by}

-- what an entry asks of node i
abbrev pub own_deeds : ℕ → BookEntry → List Deed
own_deeds i (Acted k deed) = if k == i then deed ∷ [] else []
own_deeds i (Decided c) = []

-- the actions that a history has on node i, the oldest first
abbrev pub book_log : List BookEntry → ℕ → List Deed
book_log es i = log (map tree_entry es) i

-- the verdict of what became of a domain
abbrev pub verdict_by : Outcome → Verdict
verdict_by (outcomes.Decided r) = r.claim.verdict
verdict_by outcomes.Failed = verdicts.Failed
verdict_by outcomes.NoMemory = verdicts.NoMemory

-- the verdict of the domain of node i, none before it has one
abbrev pub verdict_at : BookFacts → ℕ → Option Verdict
verdict_at b i = option_and_then (λ n. verdict_of b.state n.domain) (slice_get b.state.tree.nodes i)

-- the domain of node i has the verdict that is known of it, if one is
abbrev pub IsKnown : BookFacts → ℕ → Option Outcome → Type 0
IsKnown b i known = IfSome known (λ o. verdict_at b i ≡ Some (verdict_by o))

-- node i is what a handle is of: it is at the handle's path, the history has the handle's actions
-- on it, and its domain has the verdict that the handle knows, if it knows one
pub record AgreesAt (b : BookFacts) (path : List ℕ) (deeds : List Deed) (known : Option Outcome)
    (i : ℕ) : Type 0 where
  pub at : node_at b.state.tree.nodes path ≡ Some i
  pub log : book_log b.history i ≡ deeds
  pub verdict : IsKnown b i known

-- node i was made, and stands, as a log says
pub record StandsAs (nodes : List NodeFacts) (log : LogFacts) (i : ℕ) : Type 0 where
  pub state : IfSome (slice_get nodes i) (λ n. n.state ≡ (shown_by log).state)
  pub root : IfSome (slice_get nodes i) (λ n. (n.domain == i) ≡ log.begun.is_domain_root)

-- node i is as a handle knows its own: the history has the handle's actions on it, it was made, and
-- stands, as the handle's log says, and its domain has the verdict that the handle knows, if it
-- knows one
pub record IsAsKnown (b : BookFacts) (log : LogFacts) (known : Option Outcome)
    (i : ℕ) : Type 0 where
  pub actions : book_log b.history i ≡ log.deeds
  pub stands : StandsAs b.state.tree.nodes log i
  pub verdict : IsKnown b i known

-- node i is a handle's own: it agrees with what the handle knows, and it was made, and stands, as
-- the handle's log says
pub record IsOwn (b : BookFacts) (log : LogFacts) (known : Option Outcome) (i : ℕ) : Type 0 where
  pub agrees : AgreesAt b log.path log.deeds known i
  pub stands : StandsAs b.state.tree.nodes log i
