-- Which domain an action can make ready.
use Rattle.std.specs.Prelude.{ℕ, Bool, true, false, Option, Some, None}
use Rattle.std.specs.Prelude.{option_and_then, slice_get, if◌then◌else◌}
use Rattle.sysmem_tree.specs.declared.action.ActionKind.{ActionKind}
use Rattle.sysmem_tree.specs.declared.action.ActionKind.TheVariants.{AllChildrenPresent}
use Rattle.sysmem_tree.specs.declared.action.ActionKind.TheVariants.{SetConstraints, Release, Close}
use Rattle.sysmem_tree.specs.Domain.{TreeFacts, is_ready}
use Rattle.sysmem_tree.specs.Node.{NodeFacts}

-- whether an action of this kind can leave its node no longer awaited
abbrev pub ends_wait : ActionKind → Bool
ends_wait AllChildrenPresent = true
ends_wait SetConstraints = true
ends_wait Release = true
ends_wait Close = true
ends_wait _ = false

-- the domain of a node, unless it is ready
abbrev pub unready_of : TreeFacts → NodeFacts → Option ℕ
unready_of t n = if is_ready t n.domain then None else Some n.domain

-- the domain that an action of this kind on what is node i can make
-- ready: its node's, unless it is ready
abbrev pub can_make_ready : TreeFacts → ℕ → ActionKind → Option ℕ
can_make_ready t i kind =
    if ends_wait kind then option_and_then (unready_of t) (slice_get t.nodes i) else None
