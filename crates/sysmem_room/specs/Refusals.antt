-- What a handle's action is refused for, by what the handle knows.
use Rattle.std.specs.Prelude.{◌≡◌, ◌==◌, ℕ, Bool, true, false, List, Option, Some, None, IfSome, is_some}
use Rattle.std.specs.Prelude.{option_map, slice_get, unwrap_or, if◌then◌else◌}
use Rattle.std.specs.List.{list_any}
use Rattle.sysmem_alloc.specs.Book.{BookFacts}
use Rattle.sysmem_alloc.specs.Frozen.{FrozenFacts}
use Rattle.verdict_claims.specs.declared.verdict.Verdict.{Verdict}
use Rattle.verdict_claims.specs.declared.verdict.Verdict.TheVariants as verdicts
use Rattle.sysmem_tree.specs.declared.action.ActionKind.{ActionKind}
use Rattle.sysmem_tree.specs.declared.refusal.Refusal.{Refusal}
use Rattle.sysmem_tree.specs.declared.refusal.Refusal.TheVariants.{DomainFailed, NotSelected, TooManyNodes}
use Rattle.sysmem_tree.specs.declared.state.NodeState.{NodeState}
use Rattle.sysmem_tree.specs.ActionKind.{ends_node}
use Rattle.sysmem_tree.specs.Path.{node_at}
use Rattle.sysmem_tree.specs.Shape.{members_of}
use Rattle.sysmem_tree.specs.Table.{makes}
use Rattle.node_limits.specs.TreeRefusals.{first_of, state_refusal}
use Rattle.sysmem_room.specs.declared.outcome.Outcome.{Outcome}
use Rattle.sysmem_room.specs.declared.outcome.Outcome.TheVariants as outcomes

-- node i is a member of the selection
abbrev pub is_among : FrozenFacts → List ℕ → ℕ → Bool
is_among f selection i = list_any (λ k. k == i) (members_of f.tree.nodes f.domain selection)

-- the node at the path is a member of the selection
abbrev pub is_member : FrozenFacts → List ℕ → List ℕ → Bool
is_member f selection path =
    unwrap_or (option_map (is_among f selection) (node_at f.tree.nodes path)) false

-- what a verdict refuses the actions on a node for
abbrev pub refusal_by : FrozenFacts → List ℕ → Verdict → Option Refusal
refusal_by f path (verdicts.Chosen chosen) =
    if is_member f chosen.selection path then None else Some NotSelected
refusal_by f path _ = Some DomainFailed

-- what became of the domain
abbrev pub outcome_refusal : Outcome → List ℕ → Option Refusal
outcome_refusal (outcomes.Decided r) path = refusal_by r.frozen path r.claim.verdict
outcome_refusal _ path = Some DomainFailed

-- by the verdict that is known, if one is; none refuses what ends a node
abbrev pub known_refusal : Option Outcome → List ℕ → ActionKind → Option Refusal
known_refusal None path a = None
known_refusal (Some o) path a = if ends_node a then None else outcome_refusal o path

-- the refusal that is due by what a handle knows: by the verdict, then by what its log makes of its
-- node
abbrev pub due : Option Outcome → List ℕ → NodeState → ActionKind → Option Refusal
due known path state kind = first_of (known_refusal known path kind) (state_refusal state kind)

-- a refusal that a handle can't foresee: too many nodes, of an action that makes one; and by a
-- verdict that it doesn't know, of an action that doesn't end its node
abbrev pub IsUnforeseen : Option Outcome → ActionKind → Refusal → Type 0
IsUnforeseen known act TooManyNodes = is_some (makes act) ≡ true
IsUnforeseen None act DomainFailed = ends_node act ≡ false
IsUnforeseen None act NotSelected = ends_node act ≡ false
IsUnforeseen known act r = ⊥

-- what is due is answered, and nothing else but what the handle can't foresee
abbrev pub IsAnswer : Option Refusal → Option Outcome → ActionKind → Refusal → Type 0
IsAnswer (Some q) known act r = r ≡ q
IsAnswer None known act r = IsUnforeseen known act r

-- the same by what a handle knew before a call: a verdict that it hadn't known may come before what
-- is due
abbrev pub MayAnswer : Option Refusal → Option Outcome → ActionKind → Refusal → Type 0
MayAnswer None known act r = IsUnforeseen known act r
MayAnswer (Some q) None act DomainFailed = Unit {0}
MayAnswer (Some q) None act NotSelected = Unit {0}
MayAnswer (Some q) known act r = r ≡ q

-- nothing that the handle of node i knows refuses an action that doesn't end the node: by the
-- verdict that it knows the node is a member; but the book's decision left it out
abbrev pub IsDisputed : BookFacts → List ℕ → NodeState → Option Outcome → ActionKind → ℕ → Type 0
IsDisputed b path state None act i = ⊥
IsDisputed b path state (Some o) act i =
    (ends_node act ≡ false) × (due (Some o) path state act ≡ None)
    × IfSome (slice_get b.state.tree.nodes i) (λ n. n.is_left_out ≡ true)
