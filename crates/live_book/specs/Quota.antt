-- What a collection with limits counts.
use Rattle.std.specs.Prelude.{◌≡◌, ◌≢◌, ◌≤◌, ◌<◌, ◌+◌, ◌==◌, ℕ, List, [], ◌∷◌, Option, IfSome}
use Rattle.std.specs.Prelude.{get_or, is_some, length, option_map, slice_get, slice_set}
use Rattle.std.specs.Prelude.{if◌then◌else◌}
use Rattle.node_limits.specs.declared.limits.Limits.{Limits}
use Rattle.node_limits.specs.declared.limits.Offspring.{Offspring}
use Rattle.node_limits.specs.Limits.{AreCounted, counts_after, offspring}
use Rattle.sysmem_tree.specs.declared.action.ActionKind.{ActionKind}
use Rattle.sysmem_tree.specs.declared.tree.TheConstants.{MOST_NODES}
use Rattle.sysmem_tree.specs.Node.{NodeFacts}
use Rattle.sysmem_tree.specs.Path.{path_of}
use Rattle.sysmem_tree.specs.Table.{makes}
use Rattle.live_book.specs.declared.quota.Quota.{Quota}

-- the limits of a quota; without one there are none
abbrev pub limits_of : Option Quota → Limits
limits_of quota = record { offspring = option_map (λ q. q.most) quota }

-- of each node which child of the root it is, or is below: with it the node's path begins
abbrev pub AreTops : List NodeFacts → List ℕ → Type 0
AreTops nodes tops = (i : ℕ) → i < length nodes
    → IfSome (slice_get (path_of nodes i) 0) (λ top. get_or tops i 0 ≡ top)

-- what is counted is true of the nodes, and no child of the root has more below it than it may
pub record IsQuotaOf (nodes : List NodeFacts) (q : Quota) : Type 0 where
  pub counted : AreCounted nodes q.offspring.counts
  pub room : length q.tops ≡ MOST_NODES
  pub tops : AreTops nodes q.tops
  pub bounded : (top : ℕ) → offspring nodes top ≤ q.most

-- the child of the root that a node is, or is below, which is made on node i as this child of it
abbrev pub top_for : Quota → ℕ → ℕ → ℕ
top_for q i child = if i == 0 then child else get_or q.tops i 0

-- the offspring with one more node, made on node i; what the root makes is none's
abbrev pub offspring_for : Quota → ActionKind → ℕ → Offspring
offspring_for q kind i = if i == 0 then q.offspring else record {
  counts = counts_after q.offspring.counts (get_or q.tops i 0 ∷ []) kind;
}

-- what is counted once an action of this kind on node i was accepted, by which this node was made,
-- as this child of it
abbrev pub noted : ActionKind → ℕ → ℕ → ℕ → Quota → Quota
noted kind i child made q = if is_some (makes kind) then record {
  most = q.most;
  offspring = offspring_for q kind i;
  tops = slice_set q.tops made (top_for q i child);
} else q

-- there is room to count one more below the child of the root that node i is, or is below
pub record HasPlace (i : ℕ) (q : Quota) : Type 0 where
  pub top : i ≢ 0 → get_or q.tops i 0 < MOST_NODES
  pub count : i ≢ 0 → get_or q.offspring.counts (get_or q.tops i 0) 0 < 255
