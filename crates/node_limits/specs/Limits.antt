-- How many nodes a host lets there be below each child of the root.
use Rattle.std.specs.Prelude.{◌≡◌, ◌+◌, ◌<◌, ◌==◌, ℕ, zero, suc, Bool, true, false, ◌&&◌}
use Rattle.std.specs.Prelude.{List, [], ◌∷◌, None, Result, Ok, Err, if◌then◌else◌}
use Rattle.std.specs.Prelude.{get_or, is_some, length, nat_le, option_map, slice_set, unwrap_or}
use Rattle.node_limits.specs.declared.limits.Limits.{Limits}
use Rattle.sysmem_tree.specs.declared.action.ActionKind.{ActionKind}
use Rattle.sysmem_tree.specs.declared.refusal.Refusal.{Refusal}
use Rattle.sysmem_tree.specs.declared.refusal.Refusal.TheVariants.{TooManyNodes}
use Rattle.sysmem_tree.specs.declared.tree.TheConstants.{MOST_NODES}
use Rattle.sysmem_tree.specs.ActionKind.{Deed, kind_of}
use Rattle.sysmem_tree.specs.Domain.{TreeFacts}
use Rattle.sysmem_tree.specs.Node.{NodeFacts}
use Rattle.sysmem_tree.specs.Path.{path_of}
use Rattle.sysmem_tree.specs.Table.{makes}
use Rattle.sysmem_tree.specs.Tree.{Applied, applied}

-- as many as a collection has
abbrev pub no_limits : Limits
no_limits = record { offspring = None }

-- a node at this path is below this child of the root: its path goes through it, and on
abbrev pub is_below : ℕ → List ℕ → Bool
is_below top [] = false
is_below top (first ∷ []) = false
is_below top (first ∷ next ∷ rest) = first == top

-- how many of the first so many nodes are below this child of the root
abbrev pub below_among : List NodeFacts → ℕ → ℕ → ℕ
below_among nodes top zero = 0
below_among nodes top (suc i) =
    below_among nodes top i + (if is_below top (path_of nodes i) then 1 else 0)

-- how many nodes are below this child of the root, those that are gone included
abbrev pub offspring : List NodeFacts → ℕ → ℕ
offspring nodes top = below_among nodes top (length nodes)

-- as many nodes as the limits allow are below this child of the root
abbrev pub is_full : Limits → List NodeFacts → ℕ → Bool
is_full limits nodes top =
    unwrap_or (option_map (λ most. nat_le most (offspring nodes top)) limits.offspring) false

-- an action of this kind on the node at this path would make one more below a child of the root
-- than the limits allow; what the root makes is the host's own matter
abbrev pub is_spent : Limits → List NodeFacts → List ℕ → ActionKind → Bool
is_spent limits nodes [] _ = false
is_spent limits nodes (top ∷ rest) kind = is_some (makes kind) && is_full limits nodes top

-- where the limits are spent, too many nodes is the answer to what else would be accepted
abbrev pub unless_spent : Bool → Result Applied Refusal → Result Applied Refusal
unless_spent true (Ok after) = Err TooManyNodes
unless_spent spent answer = answer

-- an action on node i within limits: the tree's first refusal, or the limits', or what it leads to
abbrev pub applied_within : Limits → TreeFacts → ℕ → Deed → Result Applied Refusal
applied_within limits t i deed =
    unless_spent (is_spent limits t.nodes (path_of t.nodes i) (kind_of deed)) (applied t i deed)

-- the counts are those of the root's children
pub record AreCounted (nodes : List NodeFacts) (counts : List ℕ) : Type 0 where
  pub room : length counts ≡ MOST_NODES
  pub each : (top : ℕ) → top < MOST_NODES → get_or counts top 0 ≡ offspring nodes top

-- the counts after an action of this kind on the node at this path
abbrev pub counts_after : List ℕ → List ℕ → ActionKind → List ℕ
counts_after counts [] _ = counts
counts_after counts (top ∷ rest) kind =
    if is_some (makes kind) then slice_set counts top (get_or counts top 0 + 1) else counts
