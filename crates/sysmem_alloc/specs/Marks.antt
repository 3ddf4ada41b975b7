-- Domains that are ready, by their places among the roots, and which of them weren't marked.
use Rattle.std.specs.Prelude.{ℕ, ◌+◌, Bool, false, ◌&&◌, not, List, [], ◌∷◌, Option, Some, None}
use Rattle.std.specs.Prelude.{option_and_then, get_or, slice_get, if◌then◌else◌}
use Rattle.sysmem_tree.specs.Domain.{TreeFacts, is_ready}
pub use Rattle.sysmem_tree.specs.Sweep.{ready_at}
use Rattle.sysmem_alloc.specs.Sound.{roots_of}

-- a domain, if it is ready and its mark isn't set
abbrev pub if_unmarked : TreeFacts → Bool → ℕ → Option ℕ
if_unmarked t mark r = if is_ready t r && not mark then Some r else None

-- the k-th domain, if it is
abbrev pub unmarked_at : TreeFacts → List Bool → ℕ → Option ℕ
unmarked_at t marks k =
    option_and_then (if_unmarked t (get_or marks k false)) (slice_get (roots_of t) k)

-- those of these roots, the first of which has mark k, whose domain is ready and that aren't marked
abbrev pub ready_unmarked : TreeFacts → List Bool → ℕ → List ℕ → List ℕ
ready_unmarked t marks k [] = []
ready_unmarked t marks k (r ∷ rs) =
    if is_ready t r && not (get_or marks k false) then r ∷ ready_unmarked t marks (k + 1) rs
    else ready_unmarked t marks (k + 1) rs

-- a domain, if there is one and it is ready
abbrev pub if_ready : TreeFacts → Option ℕ → List ℕ
if_ready t None = []
if_ready t (Some r) = if is_ready t r then r ∷ [] else []
